-- What contracts see of links, and of the posts that hand them out.
use Rattle.std.specs.Prelude.{ℕ, List, Option}

-- what a link tells: the bytes that are left and those that it holds, where they are told, and how often its reads and writes failed
pub record LinkSeen : Type 0 where
  pub left : Option (List ℕ)
  pub held : Option (List ℕ)
  pub read_faults : ℕ
  pub write_faults : ℕ

-- what a post tells: its node, how often its door failed and how often it was closed, the key of its dice, how often its patience goes on after a start, and how often it gave up
pub record PostSeen : Type 0 where
  pub node : ℕ
  pub faults : ℕ
  pub closings : ℕ
  pub key : List ℕ
  pub times : ℕ
  pub gave_up : ℕ

-- how contracts see posts and their links
pub record Watch (Q L : Type 0) : Type 1 where
  -- the words of all dice, by key, seat, serial and number
  pub word : List ℕ → ℕ → ℕ → ℕ → ℕ
  -- what a post tells, the links that its door has handed out, where they are told, and that calls lead from one to another
  pub post : Q → PostSeen
  pub handed : Q → Option (List L)
  pub was_led : Q → Q → Type 0
  -- what a link tells, and that calls lead from one to another
  pub link : L → LinkSeen
  pub link_was_led : L → L → Type 0
