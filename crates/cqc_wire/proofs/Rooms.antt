-- One piece after another in a room.
-- Main results: `put_on`, and for lists of commands `put_more` and `put_all`.
use Rattle.std.proofs.Common.{◌≡◌, ℕ, zero, suc, ◌+◌, ◌*◌, ◌<◌, ◌≤◌, List, [], ◌∷◌, ◌++◌, length, take, drop, get_or, false, refl, sym, ap, subst, ◌∙◌, arith, length-append, length-drop, append_assoc}
use Rattle.std.proofs.lemmas.List.{append-nil, take_more, take_all, length-take-le}
use borrow.Rule.Slice.PartMut.{put_mid, post_of}
use Rattle.std.proofs.lemmas.Slice.{take-put_mid, drop-put_mid}
use Rattle.std.proofs.lemmas.Grind.{flat_map-append}
use Rattle.cqc_model.specs.declared.Command.{Command}
use Rattle.cqc_model.specs.declared.Instr.{Instr}
use Rattle.cqc_model.specs.declared.Instr.TheVariants as instr
use Rattle.cqc_model.specs.Wire.{spell_command, spell_list, spell_extra, instr_number, message_body}
use Rattle.cqc_model.specs.declared.Head.{Head}
use Rattle.cqc_model.specs.declared.Head.TheVariants as head
use Rattle.cqc_model.specs.Plan.{command_size, command_limit}
use Rattle.cqc_model.proofs.Messages.{command_short, list_short}
use Rattle.cqc_wire.specs.Room.{WasPut}

-- a room keeps its length
length-put_mid : (at size : ℕ) (room now : List ℕ) → length now ≡ size → at + size ≤ length room → length (put_mid at size room now) ≡ length room
length-put_mid at size room now same fits =
    let is : length (put_mid at size room now) ≡ length (take at room ++ (now ++ post_of at size room)) = refl in
    let behind : length (post_of at size room) ≡ length (drop size (drop at room)) = refl in
    omega (arith, is, behind, same, length-append (take at room) (now ++ post_of at size room), length-append now (post_of at size room), length-take-le at room (omega arith), length-drop size (drop at room), length-drop at room)

-- nothing was put
pub put_none : (room : List ℕ) (at : ℕ) → WasPut room room at [] at
put_none room at = record { place = omega arith; bytes = sym (append-nil (take at room)); behind = λ n h. refl; same = refl }

-- a piece was put
pub put_piece : (room piece now : List ℕ) (at size : ℕ) → now ≡ piece → size ≡ length piece → at + length piece ≤ length room
    → WasPut room (put_mid at size room now) at piece (at + length piece)
put_piece room piece now at size is long fits =
    let same : length now ≡ size = ap (λ (x : List ℕ). length x) is ∙ sym long in record {
      place = refl;
      bytes = take-put_mid at size room now (at + length piece) (omega arith) (omega arith) ∙ ap (λ (x : List ℕ). take at room ++ x) is;
      behind = λ n h. drop-put_mid at size room now n (omega arith) (omega arith) same;
      same = length-put_mid at size room now same (omega arith);
    }

-- one piece after another
pub put_on : (a b c : List ℕ) (from mid end : ℕ) (x y : List ℕ) → WasPut a b from x mid → WasPut b c mid y end → WasPut a c from (x ++ y) end
put_on a b c from mid end x y f g = record {
  place = omega (arith, f.place, g.place, length-append x y);
  bytes = g.bytes ∙ ap (λ (p : List ℕ). p ++ y) f.bytes ∙ append_assoc (take from a) x y;
  behind = λ n h. g.behind n h ∙ f.behind n (omega (arith, g.place));
  same = g.same ∙ f.same;
}

-- the commands in front of a place of a list, and one more
list_more : (list : List Command) (i : ℕ) (d : Command) → i < length list
    → spell_list (take (i + 1) list) ≡ spell_list (take i list) ++ spell_command (get_or list i d)
list_more list i d h =
    ap spell_list (take_more list i d h) ∙ flat_map-append spell_command (take i list) (get_or list i d ∷ [])
    ∙ ap (λ (x : List ℕ). spell_list (take i list) ++ x) (append-nil (spell_command (get_or list i d)))

-- what stands where a list has no command
abbrev pub no_command : Command
no_command = record { qubit = 0; instr = instr.I; notify = false; block = false }

-- one command more was put
pub put_more : (a b c : List ℕ) (list : List Command) (from mid end i : ℕ) (d : Command) → i < length list
    → WasPut a b from (spell_list (take i list)) mid → WasPut b c mid (spell_command (get_or list i d)) end
    → WasPut a c from (spell_list (take (i + 1) list)) end
put_more a b c list from mid end i d h f g =
    subst (λ (x : List ℕ). WasPut a c from x end) (sym (list_more list i d h)) (put_on a b c from mid end _ _ f g)

-- all commands were put
pub put_all : (a b : List ℕ) (list : List Command) (from end i : ℕ) → length list ≤ i
    → WasPut a b from (spell_list (take i list)) end → WasPut a b from (spell_list list) end
put_all a b list from end i h f = subst (λ (x : List Command). WasPut a b from (spell_list x) end) (take_all i list h) f

-- the next command has room where all have
pub next_fits : (list : List Command) (i : ℕ) (d : Command) → i < length list
    → length (spell_list (take i list)) + length (spell_command (get_or list i d)) ≤ length (spell_list list)
next_fits list i d h = fits_by list i d h
  where
    fits_by : (list : List Command) (i : ℕ) (d : Command) → i < length list
        → length (spell_list (take i list)) + length (spell_command (get_or list i d)) ≤ length (spell_list list)
    fits_by [] i d h = absurd (omega arith)
    fits_by (c ∷ cs) zero d h = omega (arith, length-append (spell_command c) (spell_list cs))
    fits_by (c ∷ cs) (suc i) d h =
        omega (arith, fits_by cs i d (omega arith), length-append (spell_command c) (spell_list cs), length-append (spell_command c) (spell_list (take i cs)))

-- a command has its four bytes and its extra header
pub size_is : (c : Command) → length (spell_command c) ≡ command_size (instr_number c.instr)
size_is c = omega (arith, extra_is c.instr)
  where
    extra_is : (i : Instr) → length (spell_extra i) + 4 ≡ command_size (instr_number i)
    extra_is instr.I = refl
    extra_is _ = refl

-- the size of the commands in front of a place, and of one more
pub record Sized (list : List Command) (i size : ℕ) : Type 0 where
  pub is : size ≡ length (spell_list (take i list))
  pub few : size ≤ 12 * i

pub sized_more : (list : List Command) (i size more : ℕ) (d : Command) → i < length list → Sized list i size
    → more ≡ command_size (instr_number (get_or list i d).instr) → Sized list (i + 1) (size + more)
sized_more list i size more d h s is =
    let c = get_or list i d in
    let whole : more ≡ length (spell_command c) = is ∙ sym (size_is c) in record {
      is = ap (λ n. n + more) s.is ∙ ap (λ n. length (spell_list (take i list)) + n) whole ∙ sym (length-append (spell_list (take i list)) (spell_command c))
          ∙ sym (ap (λ (x : List ℕ). length x) (list_more list i d h));
      few = omega (arith, s.few, command_short c, whole);
    }

pub sized_all : (list : List Command) (i size : ℕ) → length list ≤ i → Sized list i size → size ≡ length (spell_list list)
sized_all list i size h s = s.is ∙ ap (λ (x : List Command). length (spell_list x)) (take_all i list h)

-- a message is far shorter than its length field could say
pub body_few : (h : Head) (list : List Command) → length list ≤ command_limit → length (message_body h list) ≤ 196610
body_few (head.Hello app) list h = omega arith
body_few (head.Commands app) list h = omega (arith, h, list_short list)
body_few (head.Factory app repeats notify) list h = omega (arith, h, list_short list)
