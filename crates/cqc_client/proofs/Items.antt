-- The message at a place of a script.
use Rattle.std.proofs.Common.{◌≡◌, ℕ, ◌<◌, List, length, map, get_or, All, sym, ap, subst, ◌∙◌, arith}
use Rattle.std.proofs.lemmas.List.{get_or-map, length-map}
use Rattle.std.proofs.lemmas.List.Elements.{All-get_or}
use Rattle.script.specs.declared.reader.Message.{Message}
use Rattle.script.specs.Views.{sending_of}
use Rattle.script.specs.Sendable.{IsSendable}

pub sending_at : (script : List Message) (i : ℕ) (x d : Message) → i < length script → x ≡ get_or script i d
    → sending_of x ≡ get_or (map sending_of script) i (sending_of x)
sending_at script i x d h e = sym (get_or-map sending_of script i d (sending_of x) h ∙ ap sending_of (sym e))

pub sendable_at : (script : List Message) (i : ℕ) (x d : Message) → i < length script → All IsSendable (map sending_of script) → x ≡ get_or script i d
    → IsSendable (sending_of x)
sendable_at script i x d h all e =
    subst IsSendable (sym (sending_at script i x d h e)) (All-get_or IsSendable (map sending_of script) i (sending_of x) (omega (arith, length-map script sending_of)) all)
