-- What node cells tell of a refusal, by the call's kind. A call whose own node was read (`IsOpen`) is refused by its cells
-- (`refused_..`) or is ready to be prepared (`ready_..`); the lines of the order of refusals are met one after the other.
use Rattle.std.proofs.Common.{◌≡◌, ◌≢◌, ℕ, ◌/◌, ◌%◌, ◌^◌, ◌<◌, ◌≤◌, ◌==◌, nat_lt, Bool, true, false, not, cond, ◌&&◌, List, length, position, Option, None, Some, IsSome, is_none, unwrap_or, refl, sym, ap, subst, ◌∙◌, arith, ltb-true, ltb-false}
use Rattle.std.proofs.lemmas.List.Quantifiers.{position-Some}
use Rattle.state_model.specs.declared.Two.{Two}
use Rattle.state_model.specs.declared.Gate.{Gate}
use Rattle.state_model.specs.declared.Gate.TheVariants as gates
use Rattle.gate_kernels.specs.Gates.{HasEighths}
use Rattle.cqc_model.specs.Ranges.{is_in_range}
use Rattle.state_model.proofs.Booleans.{eq_true, eq_false, ne_of}
use Rattle.cqc_model.specs.declared.Fault.{Fault}
use Rattle.cqc_model.specs.declared.Fault.TheVariants.{General, NoQubit, Unsupported, Timeout, Unknown}
use Rattle.cqc_model.specs.declared.Instr.{Instr}
use Rattle.cqc_model.specs.declared.Instr.TheVariants as instr
use Rattle.cqc_model.specs.declared.Remote.{Remote}
use Rattle.network_model.specs.Network.{Network, Shape, load, queue}
use Rattle.network_model.specs.Kinds.{kind_of, exact, takes_qubit, second_of, remote_of, line_of, is_gate, is_inexact, is_making, is_pair}
use Rattle.network_model.specs.Step.{refusal, refusal_of, first_fault, holds_of, operand, own_number, other_number, node_at, remote_node, united_group}
use Rattle.network_model.specs.History.{is_general}
use Rattle.network_model.specs.Factored.{FitsNode, is_remote_refusal}
use Rattle.network_model.specs.declared.After.{After}
use Rattle.network_model.specs.declared.Call.{Call}
use Rattle.network_model.specs.declared.CoreReply.TheVariants as reply
use Rattle.network_model.specs.declared.Kind.{Kind}
use Rattle.network_model.specs.declared.Kind.TheVariants.{Idle, Gate as OneGate, Inexact, Two as TwoGate, Measure, Make, Pair, Send, Receive, Unrolled}
use Rattle.network_model.specs.declared.Line.{Line}
use Rattle.qubit_handles.specs.Handle.{number_of, AreDistinct}
use Rattle.virtual_node.specs.Node.{Node, load_of, is_waiting, held_map, arrived_map}
use Rattle.cell_laws.specs.Standing.{IsStanding}
use Rattle.core_cells.specs.Cells.{Cells, CellsFit, IsUnprepared, HasHome}
use Rattle.core_cells.specs.Nodes.{NodeValues}
use Rattle.factored_core.specs.Needs.{first_of, number_at, other_than, other_at, other_of}
use Rattle.factored_core.specs.Changes.{Stands, IsPreparedStep}
use Rattle.factored_core.specs.Ranges.{IsCallInRange}
use Rattle.factored_core.specs.Ready.{HasCells, IsAllowedCall, IsOpen, IsReady, IsRefusable}
use Rattle.factored_core.specs.declared.prepared.Prepared.{Prepared}
use Rattle.qubit_handles.specs.declared.handles.Handle.{Handle}
use Rattle.factored_core.specs.Vacancies.{touched_by}
use Rattle.factored_core.proofs.Changed.{there_is, some_there}
use Rattle.factored_core.proofs.Loads.{same_load, same_operand, same_queue}

-- ---- the other node
other_than_is : (own : ℕ) (o : Option ℕ) (n : ℕ) → other_than own o ≡ Some n → (o ≡ Some n) × (n ≢ own)
unfolding other_than
other_than_is own None n e = cc
other_than_is own (Some m) n e = by (m == own) refl e
  where
    none_some : None ≡ Some n → ⊥
    none_some f = cc

    by : (t : Bool) → (m == own) ≡ t → cond (m == own) None (Some m) ≡ Some n → (Some m ≡ Some n) × (n ≢ own)
    by true t f = absurd (none_some (sym (ap (λ b. cond b None (Some m)) t) ∙ f))
    by false t f = let is : Some m ≡ Some n = sym (ap (λ b. cond b None (Some m)) t) ∙ f in (is, subst (λ k. k ≢ own) (same is) (ne_of m own t))
      where
        same : Some m ≡ Some n → m ≡ n
        same g = cc

-- where there is none, the remote node is the own one
other_than_none : (own : ℕ) (o : Option ℕ) → other_than own o ≡ None → unwrap_or o own ≡ own
unfolding other_than
other_than_none own None e = refl
other_than_none own (Some m) e = by (m == own) refl e
  where
    some_none : Some m ≡ None → ⊥
    some_none f = cc

    by : (t : Bool) → (m == own) ≡ t → cond (m == own) None (Some m) ≡ None → m ≡ own
    by true t f = grind arith
    by false t f = absurd (some_none (sym (ap (λ b. cond b None (Some m)) t) ∙ f))

-- the other node of a transfer is the remote one, and not the own one
pub other_is_remote : (shape : Shape) (c : Call) (r : Remote) (n : ℕ) → remote_of (kind_of c.command.instr) ≡ Some r → other_of shape c ≡ Some n → (remote_node shape c r ≡ n) × (n ≢ c.node)
unfolding other_of other_at remote_node
other_is_remote shape c r n is e =
    let found = other_than_is c.node (node_at shape r) n (sym (ap (other_at shape c.node) is) ∙ e) in
    (ap (λ o. unwrap_or o c.node) (found.0), found.1)

-- the other node is a node
pub other_within : (shape : Shape) (c : Call) (n : ℕ) → other_of shape c ≡ Some n → n < length shape.places
unfolding other_of other_at node_at
other_within shape c n e = by (remote_of (kind_of c.command.instr)) e
  where
    none_some : None ≡ Some n → ⊥
    none_some f = cc

    by : (o : Option Remote) → other_at shape c.node o ≡ Some n → n < length shape.places
    by None f = absurd (none_some f)
    by (Some r) f = (position-Some _ shape.places n (record { address = 0; port = 0 }) ((other_than_is c.node (node_at shape r) n f).0)).0

-- an instruction that comes one by one
never_unrolled : (b : Bool) (g : Gate) → cond b (OneGate g) Inexact ≡ Unrolled → ⊥
never_unrolled true g e = cc
never_unrolled false g e = cc

pub unrolled_is : (i : Instr) → kind_of i ≡ Unrolled → i ≡ instr.Allocate
unfolding kind_of exact
unrolled_is instr.Allocate e = refl
unrolled_is (instr.RotX step) e = absurd (never_unrolled (step % 32 == 0) _ e)
unrolled_is (instr.RotY step) e = absurd (never_unrolled (step % 32 == 0) _ e)
unrolled_is (instr.RotZ step) e = absurd (never_unrolled (step % 32 == 0) _ e)
unrolled_is i e = cc

same_gate : (f g : Gate) → OneGate f ≡ OneGate g → f ≡ g
same_gate f g e = cc

exact_gate : (step : ℕ) (f g : Gate) → exact step f ≡ OneGate g → f ≡ g
unfolding exact
exact_gate step f g e = by (step % 32 == 0) e
  where
    by : (b : Bool) → cond b (OneGate f) Inexact ≡ OneGate g → f ≡ g
    by true h = same_gate f g h
    by false h = cc

below : (step : ℕ) → nat_lt step (2 ^ 8) ≡ true → step / 32 < 8
below step h = let f = ltb-true step (2 ^ 8) h in omega (arith, f)

-- a rotation by whole eighths turns by less than eight of them
pub eighths_of : (i : Instr) (g : Gate) → is_in_range i ≡ true → kind_of i ≡ OneGate g → HasEighths g
unfolding kind_of is_in_range
eighths_of (instr.RotX step) g r e = subst HasEighths (exact_gate step (gates.RotX (step / 32)) g e) (below step r)
eighths_of (instr.RotY step) g r e = subst HasEighths (exact_gate step (gates.RotY (step / 32)) g e) (below step r)
eighths_of (instr.RotZ step) g r e = subst HasEighths (exact_gate step (gates.RotZ (step / 32)) g e) (below step r)
eighths_of i (gates.RotX k) r e = cc
eighths_of i (gates.RotY k) r e = cc
eighths_of i (gates.RotZ k) r e = cc
eighths_of i g r e = tt

-- ---- tests
pub not_less : (m n : ℕ) → n ≤ m → nat_lt m n ≡ false
not_less m n h = by (nat_lt m n) refl
  where
    by : (b : Bool) → nat_lt m n ≡ b → nat_lt m n ≡ false
    by false e = e
    by true e = absurd (let f = ltb-true m n e in omega (arith, f, h))

pub is_less : (m n : ℕ) → m < n → nat_lt m n ≡ true
is_less m n h = by (nat_lt m n) refl
  where
    by : (b : Bool) → nat_lt m n ≡ b → nat_lt m n ≡ true
    by true e = e
    by false e = absurd (let f = ltb-false m n e in omega (arith, f, h))

-- a line that is met, or not
passes : (b : Bool) (f : Fault) (o : Option Fault) → b ≡ false → cond b (Some f) o ≡ o
passes b f o e = ap (λ t. cond t (Some f) o) e

stops : (b : Bool) (f : Fault) (o : Option Fault) → b ≡ true → cond b (Some f) o ≡ Some f
stops b f o e = ap (λ t. cond t (Some f) o) e

-- a number that was found, or not
pub found_by : (list own : List Handle) (app id : ℕ) (r o : Option ℕ) → r ≡ number_of list app id → list ≡ own → r ≡ o → number_of own app id ≡ o
found_by list own app id r o e f g = sym (e ∙ ap (λ hs. number_of hs app id) f) ∙ g

pub le_by : (a b x y : ℕ) → a ≡ x → b ≡ y → a ≤ b → x ≤ y
le_by a b x y e f h = subst (λ n. n ≤ y) e (subst (λ n. a ≤ n) f h)

pub lt_by : (a b x y : ℕ) → a ≡ x → b ≡ y → a < b → x < y
lt_by a b x y e f h = subst (λ n. n < y) e (subst (λ n. a < n) f h)

-- the other node as it was looked up
other_by : (shape : Shape) (c : Call) (r : Remote) (k : Kind) (x o : Option ℕ) → kind_of c.command.instr ≡ k → remote_of k ≡ Some r → x ≡ other_at shape c.node (Some r) → x ≡ o → other_of shape c ≡ o
unfolding other_of
other_by shape c r k x o is remote e f = ap (λ j. other_at shape c.node (remote_of j)) is ∙ ap (other_at shape c.node) remote ∙ sym e ∙ f

pub other_sent : (shape : Shape) (c : Call) (r : Remote) (x o : Option ℕ) → kind_of c.command.instr ≡ Send r → x ≡ other_at shape c.node (Some r) → x ≡ o → other_of shape c ≡ o
unfolding remote_of
other_sent shape c r x o is = other_by shape c r (Send r) x o is refl

pub other_paired : (shape : Shape) (c : Call) (r : Remote) (x o : Option ℕ) → kind_of c.command.instr ≡ Pair r → x ≡ other_at shape c.node (Some r) → x ≡ o → other_of shape c ≡ o
unfolding remote_of
other_paired shape c r x o is = other_by shape c r (Pair r) x o is refl

-- the kind of a measurement, by what becomes of the qubit
pub measure_is : (c : Call) (after a : After) (told t : Bool) → kind_of c.command.instr ≡ Measure after told → after ≡ a → t ≡ told → kind_of c.command.instr ≡ Measure a t
measure_is c after a told t is e f = is ∙ ap (λ x. Measure x told) e ∙ ap (Measure a) (sym f)

-- a call is open where its own node was read
pub open_is : (shape : Shape) (c : Call) (cs mid : Cells) (own : Node) → mid ≡ cs → (has : HasCells shape c cs) → ((w : NodeValues) → cs.node c.node ≡ Some w → own ≡ w.now)
    → Stands shape cs → IsUnprepared cs → IsCallInRange c → IsAllowedCall shape c → AreDistinct own.handles → IsOpen shape c mid own
open_is shape c cs mid own same has copied stands unprepared range allowed distinct =
    subst (λ (d : Cells). IsOpen shape c d own) (sym same)
    (record { has = has; own_is = copied has.own has.own_there; stands = stands; unprepared = unprepared; range = range; allowed = allowed; distinct = distinct })

-- a refusal on a board with the same cells
pub refused_along : (shape : Shape) (c : Call) (cs mid new : Cells) (own : Node) (other : Option ℕ) (f : Fault) (p : Prepared) → mid ≡ cs
    → ((shape : Shape) → IsRefusable shape c mid own other f → IsPreparedStep shape mid new p) → IsRefusable shape c cs own other f → IsPreparedStep shape cs new p
refused_along shape c cs mid new own other f p same step ready =
    subst (λ (d : Cells). IsRefusable shape c d own other f → IsPreparedStep shape d new p) same (step shape) ready

-- ---- an open call
module _ (shape : Shape) (c : Call) (cs : Cells) (own : Node) (open_call : IsOpen shape c cs own) where
  -- in a state that the cells fit
  module _ (s : Network) (home : ℕ → ℕ) (standing : IsStanding shape s home) (fit : CellsFit shape s home cs) where
    own_fits : FitsNode s c.node (held_map own) (arrived_map own)
    own_fits =
        let h = open_call.has in
        subst (λ (n : Node). FitsNode s c.node (held_map n) (arrived_map n)) (sym open_call.own_is) (fit.nodes c.node h.own h.own_there)

    held_is : (id q : ℕ) → number_of own.handles c.app id ≡ Some q → is_none (operand s c id) ≡ false
    held_is id q e = ap is_none (same_operand s c.node own own_fits c id refl ∙ e)

    missing_is : (id : ℕ) → number_of own.handles c.app id ≡ None → is_none (operand s c id) ≡ true
    missing_is id e = ap is_none (same_operand s c.node own own_fits c id refl ∙ e)

    own_load : load s c.node ≡ load_of own
    own_load = same_load s c.node own own_fits shape standing.sound open_call.distinct

    own_room : load_of own < shape.room → not (nat_lt (load s c.node) shape.room) ≡ false
    own_room room = ap not (is_less _ _ (subst (λ n. n < shape.room) (sym own_load) room))

    own_full : shape.room ≤ load_of own → not (nat_lt (load s c.node) shape.room) ≡ true
    own_full full = ap not (not_less _ _ (subst (λ n. shape.room ≤ n) (sym own_load) full))

  pub own_present : IsSome (cs.node c.node)
  own_present = let h = open_call.has in some_there (cs.node c.node) h.own h.own_there

  pub other_present : (other : ℕ) → other_of shape c ≡ Some other → IsSome (cs.node other)
  other_present other there = let h = open_call.has in h.other other there

  IsRefused : Fault → Type 0
  IsRefused f = (s : Network) (home : ℕ → ℕ) → IsStanding shape s home → CellsFit shape s home cs → refusal shape s c ≡ Some f

  IsFree : Type 0
  IsFree = (s : Network) (home : ℕ → ℕ) → IsStanding shape s home → CellsFit shape s home cs → refusal shape s c ≡ None

  refusable : (other : Option ℕ) (f : Fault) → other ≡ touched_by (other_of shape c) f → (is_general (reply.Error f) && is_gate (kind_of c.command.instr)) ≡ false → IsRefused f → IsRefusable shape c cs own other f
  unfolding IsRefused
  refusable other f looked no_gate refused = record { has = open_call.has; own_is = open_call.own_is; unprepared = open_call.unprepared; range = open_call.range; allowed = open_call.allowed; looked = looked; no_gate = no_gate; refused = refused }

  ready_by : second_of (kind_of c.command.instr) ≡ None → IsFree → IsReady shape c cs own
  unfolding IsFree
  ready_by none free = record {
    opened = open_call;
    passed = λ s home standing fit. free s home standing fit
        ∙ sym (ap (λ o. cond (holds_of o (λ id. nat_lt shape.limit (length (united_group s (own_number s c) (other_number s c id))))) (Some General) None) none);
  }

  -- ---- a qubit that is not held
  pub refused_missing : (k : Kind) → kind_of c.command.instr ≡ k → takes_qubit k ≡ true → number_of own.handles c.app c.command.qubit ≡ None → IsRefusable shape c cs own None Unknown
  unfolding IsRefused refusal refusal_of first_fault is_remote_refusal is_general
  refused_missing k is takes none = refusable None Unknown refl refl (λ s home standing fit. stops (takes_qubit (kind_of c.command.instr) && is_none (operand s c c.command.qubit)) Unknown _
      (ap (λ b. b && is_none (operand s c c.command.qubit)) (ap takes_qubit is ∙ takes) ∙ missing_is s home standing fit c.command.qubit none))

  -- ---- what needs its own qubit alone
  abbrev IsPlain : Kind → Type 0
  IsPlain k = (s : Network) → refusal_of shape s c k ≡ cond (is_none (operand s c c.command.qubit)) (Some Unknown) None

  module _ (q : ℕ) (held : number_of own.handles c.app c.command.qubit ≡ Some q) where
    plain_free : (k : Kind) → kind_of c.command.instr ≡ k → IsPlain k → IsFree
    unfolding IsFree refusal
    plain_free k is plain s home standing fit = ap (refusal_of shape s c) is ∙ plain s ∙ passes _ Unknown _ (held_is s home standing fit c.command.qubit q held)

    pub ready_idle : kind_of c.command.instr ≡ Idle → IsReady shape c cs own
    unfolding refusal_of first_fault takes_qubit second_of remote_of line_of is_inexact is_making is_pair
    ready_idle is = ready_by (ap second_of is) (plain_free Idle is (λ s. refl))

    pub ready_gate : (g : Gate) → kind_of c.command.instr ≡ OneGate g → IsReady shape c cs own
    unfolding refusal_of first_fault takes_qubit second_of remote_of line_of is_inexact is_making is_pair
    ready_gate g is = ready_by (ap second_of is) (plain_free (OneGate g) is (λ s. refl))

    pub ready_measurement : (after : After) (told : Bool) → kind_of c.command.instr ≡ Measure after told → IsReady shape c cs own
    unfolding refusal_of first_fault takes_qubit second_of remote_of line_of is_inexact is_making is_pair
    ready_measurement after told is = ready_by (ap second_of is) (plain_free (Measure after told) is (λ s. refl))

    pub refused_inexact : kind_of c.command.instr ≡ Inexact → IsRefusable shape c cs own None Unsupported
    unfolding IsRefused refusal refusal_of first_fault takes_qubit second_of remote_of line_of is_inexact is_making is_pair is_remote_refusal is_general
    refused_inexact is = refusable None Unsupported refl refl (λ s home standing fit. ap (refusal_of shape s c) is ∙ passes _ Unknown _ (held_is s home standing fit c.command.qubit q held))

    -- its home is there
    pub own_home : takes_qubit (kind_of c.command.instr) ≡ true → HasHome cs q
    unfolding first_of
    own_home takes =
        let h = open_call.has in
        h.first q (ap (λ b. cond b (number_of (h.own).now.handles c.app c.command.qubit) None) takes ∙ ap (λ (n : Node). number_of n.handles c.app c.command.qubit) (sym open_call.own_is) ∙ held)

  -- ---- gates on two
  module _ (g : Two) (id : ℕ) (is : kind_of c.command.instr ≡ TwoGate g id) (first : ℕ) (first_held : number_of own.handles c.app c.command.qubit ≡ Some first) where
    two_lines : (s : Network) → refusal_of shape s c (TwoGate g id) ≡ cond (is_none (operand s c c.command.qubit)) (Some Unknown) (cond (is_none (operand s c id)) (Some Unknown) (cond (id == c.command.qubit) (Some Unsupported)
        (cond (nat_lt shape.limit (length (united_group s (own_number s c) (other_number s c id)))) (Some General) None)))
    unfolding refusal_of first_fault takes_qubit second_of remote_of line_of is_inexact is_making is_pair
    two_lines s = refl

    pub refused_second : number_of own.handles c.app id ≡ None → IsRefusable shape c cs own None Unknown
    unfolding IsRefused refusal is_remote_refusal is_general
    refused_second none = refusable None Unknown refl refl (λ s home standing fit.
        ap (refusal_of shape s c) is ∙ two_lines s ∙ passes _ Unknown _ (held_is s home standing fit c.command.qubit first first_held) ∙ stops _ Unknown _ (missing_is s home standing fit id none))

    module _ (second : ℕ) (second_held : number_of own.handles c.app id ≡ Some second) where
      pub refused_equal : id ≡ c.command.qubit → IsRefusable shape c cs own None Unsupported
      unfolding IsRefused refusal is_remote_refusal is_general
      refused_equal same = refusable None Unsupported refl refl (λ s home standing fit.
          ap (refusal_of shape s c) is ∙ two_lines s ∙ passes _ Unknown _ (held_is s home standing fit c.command.qubit first first_held) ∙ passes _ Unknown _ (held_is s home standing fit id second second_held)
          ∙ stops _ Unsupported _ (eq_true id c.command.qubit same))

      pub ready_two : id ≢ c.command.qubit → IsReady shape c cs own
      unfolding refusal second_of
      ready_two other = record {
        opened = open_call;
        passed = λ s home standing fit.
            ap (refusal_of shape s c) is ∙ two_lines s ∙ passes _ Unknown _ (held_is s home standing fit c.command.qubit first first_held) ∙ passes _ Unknown _ (held_is s home standing fit id second second_held)
            ∙ passes _ Unsupported _ (eq_false id c.command.qubit other)
            ∙ sym (ap (λ k. cond (holds_of (second_of k) (λ id. nat_lt shape.limit (length (united_group s (own_number s c) (other_number s c id))))) (Some General) None) is);
      }

      pub second_home : HasHome cs second
      unfolding number_at second_of
      second_home =
          let h = open_call.has in
          h.second second (ap (λ k. number_at c.app (h.own).now (second_of k)) is ∙ ap (λ (n : Node). number_of n.handles c.app id) (sym open_call.own_is) ∙ second_held)

  -- ---- new qubits
  module _ (is : kind_of c.command.instr ≡ Make) where
    make_lines : (s : Network) → refusal_of shape s c Make ≡ cond (not (nat_lt (load s c.node) shape.room)) (Some NoQubit) None
    unfolding refusal_of first_fault takes_qubit second_of remote_of line_of is_inexact is_making is_pair
    make_lines s = refl

    no_other : other_of shape c ≡ None
    unfolding other_of other_at remote_of
    no_other = ap (λ k. other_at shape c.node (remote_of k)) is

    pub refused_make : shape.room ≤ load_of own → IsRefusable shape c cs own None NoQubit
    unfolding IsRefused refusal is_remote_refusal is_general
    refused_make full = refusable None NoQubit (sym no_other) refl (λ s home standing fit. ap (refusal_of shape s c) is ∙ make_lines s ∙ stops _ NoQubit _ (own_full s home standing fit full))

    pub ready_make : load_of own < shape.room → IsReady shape c cs own
    unfolding IsFree refusal second_of
    ready_make room = ready_by (ap second_of is) (λ s home standing fit. ap (refusal_of shape s c) is ∙ make_lines s ∙ passes _ NoQubit _ (own_room s home standing fit room))

  -- ---- receipts
  module _ (l : Line) (is : kind_of c.command.instr ≡ Receive l) where
    receive_lines : (s : Network) → refusal_of shape s c (Receive l) ≡ cond (length (queue s c.node c.app l) == 0) (Some Timeout) None
    unfolding refusal_of first_fault takes_qubit second_of remote_of line_of is_inexact is_making is_pair
    receive_lines s = refl

    pub refused_receive : position (is_waiting c.app l) own.arrivals ≡ None → IsRefusable shape c cs own None Timeout
    unfolding IsRefused refusal is_remote_refusal is_general
    refused_receive none = refusable None Timeout refl refl (λ s home standing fit.
        ap (refusal_of shape s c) is ∙ receive_lines s ∙ stops _ Timeout _ (same_queue s c.node own (own_fits s home standing fit) c.app l ∙ ap is_none none))

    pub ready_receive : is_none (position (is_waiting c.app l) own.arrivals) ≡ false → IsReady shape c cs own
    unfolding IsFree refusal second_of
    ready_receive some = ready_by (ap second_of is) (λ s home standing fit.
        ap (refusal_of shape s c) is ∙ receive_lines s ∙ passes _ Timeout _ (same_queue s c.node own (own_fits s home standing fit) c.app l ∙ some))

  -- ---- transfers
  module _ (r : Remote) (remote_is : remote_of (kind_of c.command.instr) ≡ Some r) where
    here : other_of shape c ≡ None → (remote_node shape c r == c.node) ≡ true
    unfolding other_of other_at remote_node
    here none = eq_true _ _ (other_than_none c.node (node_at shape r) (sym (ap (other_at shape c.node) remote_is) ∙ none))

    -- the other node and a copy of it
    module _ (other : ℕ) (there : other_of shape c ≡ Some other) where
      away : (remote_node shape c r == c.node) ≡ false
      away = let e = other_is_remote shape c r other remote_is there in eq_false _ _ (λ f. (e.1) (sym (e.0) ∙ f))

      module _ (to : Node) (copied : (w : NodeValues) → cs.node other ≡ Some w → to ≡ w.now) (distinct : AreDistinct to.handles) (s : Network) (home : ℕ → ℕ) (standing : IsStanding shape s home) (fit : CellsFit shape s home cs) where
        to_load : load s (remote_node shape c r) ≡ load_of to
        to_load =
            let h = open_call.has in
            let w = there_is (cs.node other) (h.other other there) in
            ap (load s) ((other_is_remote shape c r other remote_is there).0)
            ∙ same_load s other to (subst (λ (n : Node). FitsNode s other (held_map n) (arrived_map n)) (sym (copied (w.0) (w.1))) (fit.nodes other (w.0) (w.1))) shape standing.sound distinct

        to_room : load_of to < shape.room → not (nat_lt (load s (remote_node shape c r)) shape.room) ≡ false
        to_room room = ap not (is_less _ _ (subst (λ n. n < shape.room) (sym to_load) room))

        to_full : shape.room ≤ load_of to → not (nat_lt (load s (remote_node shape c r)) shape.room) ≡ true
        to_full full = ap not (not_less _ _ (subst (λ n. shape.room ≤ n) (sym to_load) full))

  sent_remote : (r : Remote) → kind_of c.command.instr ≡ Send r → remote_of (kind_of c.command.instr) ≡ Some r
  unfolding remote_of
  sent_remote r is = ap remote_of is

  pair_remote : (r : Remote) → kind_of c.command.instr ≡ Pair r → remote_of (kind_of c.command.instr) ≡ Some r
  unfolding remote_of
  pair_remote r is = ap remote_of is

  -- ---- a qubit that is sent
  module _ (r : Remote) (is : kind_of c.command.instr ≡ Send r) (q : ℕ) (held : number_of own.handles c.app c.command.qubit ≡ Some q) where
    sent_lines : (s : Network) → refusal_of shape s c (Send r) ≡ cond (is_none (operand s c c.command.qubit)) (Some Unknown) (cond (remote_node shape c r == c.node) (Some General)
        (cond (not (nat_lt (load s (remote_node shape c r)) shape.room)) (Some NoQubit) None))
    unfolding refusal_of first_fault takes_qubit second_of remote_of line_of is_inexact is_making is_pair
    sent_lines s = refl

    pub refused_alone : other_of shape c ≡ None → IsRefusable shape c cs own None General
    unfolding IsRefused refusal is_remote_refusal is_general is_gate
    refused_alone none = refusable None General (sym none) (ap is_gate is) (λ s home standing fit.
        ap (refusal_of shape s c) is ∙ sent_lines s ∙ passes _ Unknown _ (held_is s home standing fit c.command.qubit q held) ∙ stops _ General _ (here r (sent_remote r is) none))

    module _ (other : ℕ) (there : other_of shape c ≡ Some other) (to : Node) (copied : (w : NodeValues) → cs.node other ≡ Some w → to ≡ w.now) (distinct : AreDistinct to.handles) where
      pub refused_send : shape.room ≤ load_of to → IsRefusable shape c cs own (Some other) NoQubit
      unfolding IsRefused refusal is_remote_refusal is_general
      refused_send full = refusable (Some other) NoQubit (sym there) refl (λ s home standing fit.
          ap (refusal_of shape s c) is ∙ sent_lines s ∙ passes _ Unknown _ (held_is s home standing fit c.command.qubit q held) ∙ passes _ General _ (away r (sent_remote r is) other there)
          ∙ stops _ NoQubit _ (to_full r (sent_remote r is) other there to copied distinct s home standing fit full))

      pub ready_send : load_of to < shape.room → IsReady shape c cs own
      unfolding IsFree refusal second_of
      ready_send room = ready_by (ap second_of is) (λ s home standing fit.
          ap (refusal_of shape s c) is ∙ sent_lines s ∙ passes _ Unknown _ (held_is s home standing fit c.command.qubit q held) ∙ passes _ General _ (away r (sent_remote r is) other there)
          ∙ passes _ NoQubit _ (to_room r (sent_remote r is) other there to copied distinct s home standing fit room))

  -- ---- a pair
  module _ (r : Remote) (is : kind_of c.command.instr ≡ Pair r) where
    pair_lines : (s : Network) → refusal_of shape s c (Pair r) ≡ cond (remote_node shape c r == c.node) (Some General) (cond (not (nat_lt (load s c.node) shape.room)) (Some NoQubit)
        (cond (not (nat_lt (load s (remote_node shape c r)) shape.room)) (Some NoQubit) (cond (nat_lt shape.limit 2) (Some General) None)))
    unfolding refusal_of first_fault takes_qubit second_of remote_of line_of is_inexact is_making is_pair
    pair_lines s = refl

    pub refused_partner : other_of shape c ≡ None → IsRefusable shape c cs own None General
    unfolding IsRefused refusal is_remote_refusal is_general is_gate
    refused_partner none = refusable None General (sym none) (ap is_gate is) (λ s home standing fit. ap (refusal_of shape s c) is ∙ pair_lines s ∙ stops _ General _ (here r (pair_remote r is) none))

    module _ (other : ℕ) (there : other_of shape c ≡ Some other) (to : Node) (copied : (w : NodeValues) → cs.node other ≡ Some w → to ≡ w.now) (distinct : AreDistinct to.handles) where
      pub refused_own_room : shape.room ≤ load_of own → IsRefusable shape c cs own (Some other) NoQubit
      unfolding IsRefused refusal is_remote_refusal is_general
      refused_own_room full = refusable (Some other) NoQubit (sym there) refl (λ s home standing fit.
          ap (refusal_of shape s c) is ∙ pair_lines s ∙ passes _ General _ (away r (pair_remote r is) other there) ∙ stops _ NoQubit _ (own_full s home standing fit full))

      module _ (room : load_of own < shape.room) where
        pub refused_other_room : shape.room ≤ load_of to → IsRefusable shape c cs own (Some other) NoQubit
        unfolding IsRefused refusal is_remote_refusal is_general
        refused_other_room full = refusable (Some other) NoQubit (sym there) refl (λ s home standing fit.
            ap (refusal_of shape s c) is ∙ pair_lines s ∙ passes _ General _ (away r (pair_remote r is) other there) ∙ passes _ NoQubit _ (own_room s home standing fit room)
            ∙ stops _ NoQubit _ (to_full r (pair_remote r is) other there to copied distinct s home standing fit full))

        module _ (to_free : load_of to < shape.room) where
          pub refused_limit : shape.limit < 2 → IsRefusable shape c cs own (Some other) General
          unfolding IsRefused refusal is_remote_refusal is_general is_gate
          refused_limit few = refusable (Some other) General (sym there) (ap is_gate is) (λ s home standing fit.
              ap (refusal_of shape s c) is ∙ pair_lines s ∙ passes _ General _ (away r (pair_remote r is) other there) ∙ passes _ NoQubit _ (own_room s home standing fit room)
              ∙ passes _ NoQubit _ (to_room r (pair_remote r is) other there to copied distinct s home standing fit to_free) ∙ stops _ General _ (is_less _ _ few))

          pub ready_pair : 2 ≤ shape.limit → IsReady shape c cs own
          unfolding IsFree refusal second_of
          ready_pair two = ready_by (ap second_of is) (λ s home standing fit.
              ap (refusal_of shape s c) is ∙ pair_lines s ∙ passes _ General _ (away r (pair_remote r is) other there) ∙ passes _ NoQubit _ (own_room s home standing fit room)
              ∙ passes _ NoQubit _ (to_room r (pair_remote r is) other there to copied distinct s home standing fit to_free) ∙ passes _ General _ (not_less _ _ two))
