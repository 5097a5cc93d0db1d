-- The state of the whole network: the undivided vector, groups, holders and queues; and when it is sound.
use Rattle.std.specs.Prelude.{ℕ, ◌≡◌, ◌+◌, ◌*◌, ◌^◌, ◌<◌, ◌≤◌, ◌==◌, Bool, true, false, cond, ◌&&◌, List, [], filter, find, length, count_by, Option, option_map, is_some, All}
use Rattle.state_model.specs.Coefficient.{zero_coefficient, one_coefficient}
use Rattle.state_model.specs.Row.{is_listed}
use Rattle.state_model.specs.StateVector.{Vector, IsOver, HasSizeAtLeast}
use Rattle.network_model.specs.declared.Place.{Place}
use Rattle.network_model.specs.declared.Line.{Line}
use Rattle.network_model.specs.declared.Line.TheVariants.{Sent, Pair}
use Rattle.cqc_model.specs.declared.PairInfo.{PairInfo}

-- the settings of a network: the nodes' places, the room of each node, and the most qubits of a group
pub record Shape : Type 0 where
  pub places : List Place
  pub room : ℕ
  pub limit : ℕ

-- an entry of the map from handles (node, app, id) to numbers
pub record Held : Type 0 where
  pub node : ℕ
  pub app : ℕ
  pub id : ℕ
  pub number : ℕ

-- a qubit that waits in the queue of (node, app, line), with what is told of its pair
pub record Waiting : Type 0 where
  pub node : ℕ
  pub app : ℕ
  pub line : Line
  pub number : ℕ
  pub info : Option PairInfo

-- the state: the vector, the live numbers, the label of each, the handles, the queues in one list by arrival, the pairs made
pub record Network : Type 0 where
  pub vector : Vector
  pub live : List ℕ
  pub label : ℕ → ℕ
  pub held : List Held
  pub waiting : List Waiting
  pub pairs : ℕ

-- the vector with the one row 0 and no live qubit
unfoldable pub opening : Network
opening = record { vector = λ x. cond (x == 0) one_coefficient zero_coefficient; live = []; label = λ q. q; held = []; waiting = []; pairs = 0 }

-- the live numbers with a label
unfoldable pub members : List ℕ → (ℕ → ℕ) → ℕ → List ℕ
members live label l = filter (λ p. label p == l) live

-- the group of a live number
unfoldable pub group_of : Network → ℕ → List ℕ
group_of s q = members s.live s.label (s.label q)

-- the number of a handle
unfoldable pub held_number : Network → ℕ → ℕ → ℕ → Option ℕ
held_number s node app id = option_map (λ e. e.number) (find (λ e. (e.node == node) && (e.app == app) && (e.id == id)) s.held)

-- whether two lines are the same
unfoldable pub line_eq : Line → Line → Bool
line_eq Sent Sent = true
line_eq Pair Pair = true
line_eq _ _ = false

-- whether a waiting qubit is in the queue of (node, app, line)
unfoldable pub is_in_queue : ℕ → ℕ → Line → Waiting → Bool
is_in_queue node app line e = (e.node == node) && (e.app == app) && line_eq e.line line

-- the queue of (node, app, line), by arrival
unfoldable pub queue : Network → ℕ → ℕ → Line → List Waiting
queue s node app line = filter (is_in_queue node app line) s.waiting

-- how many qubits a node holds or has waiting
unfoldable pub load : Network → ℕ → ℕ
load s node = count_by (λ e. e.node == node) s.held + count_by (λ e. e.node == node) s.waiting

-- how often a number stands in the handles and the queues
unfoldable pub places_of : Network → ℕ → ℕ
places_of s q = count_by (λ e. e.number == q) s.held + count_by (λ e. e.number == q) s.waiting

-- the state is sound for its shape
pub record IsSound (shape : Shape) (s : Network) : Type 0 where
  pub some_row : ¬ ((x : ℕ) → s.vector x ≡ zero_coefficient)
  pub over_live : IsOver s.live s.vector
  pub live_numbers : (q : ℕ) → is_listed s.live q ≡ true → q < length shape.places * shape.room
  pub live_once : (q : ℕ) → count_by (λ p. p == q) s.live ≤ 1
  pub held_nodes : All (λ e. Held.node e < length shape.places) s.held
  pub waiting_nodes : All (λ e. Waiting.node e < length shape.places) s.waiting
  pub informed : All (λ e. is_some (Waiting.info e) ≡ line_eq (Waiting.line e) Pair) s.waiting
  pub one_place : (q : ℕ) → places_of s q ≡ cond (is_listed s.live q) 1 0
  pub one_handle : (node app id : ℕ) → count_by (λ e. (Held.node e == node) && (Held.app e == app) && (Held.id e == id)) s.held ≤ 1
  pub room : (node : ℕ) → load s node ≤ shape.room
  pub limit : (q : ℕ) → is_listed s.live q ≡ true → length (group_of s q) ≤ shape.limit
  pub labels : (q : ℕ) → is_listed s.live q ≡ true → is_listed (group_of s q) (s.label q) ≡ true
  pub least_labels : (p q : ℕ) → is_listed (group_of s q) p ≡ true → s.label q ≤ p
  pub sizes : (q : ℕ) → is_listed s.live q ≡ true → ¬ HasSizeAtLeast s.vector (group_of s q) (2 ^ 60)
