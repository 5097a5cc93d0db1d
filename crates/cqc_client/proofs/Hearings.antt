-- Hearing replies one after the other: `hear_more` adds one, and `hear_stop` stops at a part of one.
use Rattle.std.proofs.Common.{◌≡◌, ℕ, ◌≤◌, List, [], ◌∷◌, ◌++◌, length, take, drop, Bool, true, false, Option, refl, sym, ap, subst, ◌∙◌, arith, length-append, length-drop}
use Rattle.std.specs.List.{flat_map}
use Rattle.std.proofs.lemmas.List.{append-nil, take-append-drop}
use Rattle.std.proofs.lemmas.Grind.{flat_map-append}
use Rattle.std.proofs.lemmas.List.Elements.{All-nil, All-push}
use Rattle.cqc_model.specs.declared.Reply.{Reply}
use Rattle.cqc_model.specs.Wire.{spell, header_bytes, reply_body}
use Rattle.cqc_model.specs.Ranges.{FitsReply}
use Rattle.qron_link.specs.Outside.{WasWritten}
use Rattle.qron_link.specs.Transfers.{Sent}
use Rattle.cqc_client.specs.declared.stops.Stop.{Stop}
use Rattle.cqc_client.specs.declared.stops.Stop.TheVariants as stop
use Rattle.cqc_client.specs.Replies.{line_of, is_last_reply, reply_header}
use Rattle.cqc_client.specs.Talk.{AreEarly, AreWhole, spell_replies, lines_of_replies}
use Rattle.cqc_client.specs.Stops.{StopsDue, StopsHearing, IsHalfPrinted, IsOne, IsWholeHeard, IsPartHeard}

-- what a list gives, with one element more at its end
pub flat_map_push : {X : Type 0} (f : X → List ℕ) (xs : List X) (x : X) → flat_map f (xs ++ x ∷ []) ≡ flat_map f xs ++ f x
flat_map_push f xs x = flat_map-append f xs (x ∷ []) ∙ ap (λ (y : List ℕ). flat_map f xs ++ y) (append-nil (f x))

-- no reply was read, so no line was printed
pub due_stops : (s : Stop) (app : ℕ) (part : List ℕ) (left : Option (List ℕ)) (now : ℕ) → StopsDue s app part left now → StopsHearing s app part [] left now
due_stops stop.Ended app part left now d = (d, refl)
due_stops stop.NotRead app part left now d = (d, refl)
due_stops stop.Spent app part left now d = (d, refl)
due_stops (stop.Strange kind) app part left now d = (d, refl)
due_stops stop.NotSent app part left now d = absurd d
due_stops stop.NotPrinted app part left now d = absurd d

-- whether the last reply has come
abbrev pub AreHeard : Bool → List Reply → Type 0
AreHeard true replies = AreWhole replies
AreHeard false replies = AreEarly replies

pub record Hearing (last : Bool) (app : ℕ) (came shown : List ℕ) : Type 0 where
  pub replies : List Reply
  pub heard : AreHeard last replies
  pub bytes : came ≡ spell_replies app replies
  pub printed : shown ≡ lines_of_replies replies

pub nothing_heard : (app : ℕ) → Hearing false app [] []
nothing_heard app = record { replies = []; heard = All-nil (λ r. FitsReply r × (is_last_reply r ≡ false)); bytes = refl; printed = refl }

-- while the last reply hasn't come
pub still_early : (last : Bool) (app : ℕ) (came shown : List ℕ) → last ≡ false → Hearing last app came shown → Hearing false app came shown
still_early last app came shown e h = subst (λ (b : Bool). Hearing b app came shown) e h

heard_as : (last : Bool) (replies : List Reply) (r : Reply) → AreEarly replies → FitsReply r → last ≡ is_last_reply r → AreHeard last (replies ++ r ∷ [])
heard_as true replies r early f e = record { early = replies; last = r; is = refl; go_on = early; fits = f; ends = sym e }
heard_as false replies r early f e = All-push (λ r. FitsReply r × (is_last_reply r ≡ false)) replies r early (f, sym e)

pub hear_more : (last : Bool) (app : ℕ) (came shown bytes printed : List ℕ) → Hearing false app came shown → IsOne app bytes printed last
    → Hearing last app (came ++ bytes) (shown ++ printed)
hear_more last app came shown bytes printed h o = record {
  replies = h.replies ++ o.reply ∷ [];
  heard = heard_as last h.replies o.reply h.heard o.fits o.ends;
  bytes = ap (λ (x : List ℕ). x ++ bytes) h.bytes ∙ ap (λ (x : List ℕ). spell_replies app h.replies ++ x) o.bytes ∙ sym (flat_map_push (spell app) h.replies o.reply);
  printed = ap (λ (x : List ℕ). x ++ printed) h.printed ∙ ap (λ (x : List ℕ). lines_of_replies h.replies ++ x) o.printed ∙ sym (flat_map_push line_of h.replies o.reply);
}

pub hear_whole : (app : ℕ) (came shown : List ℕ) → Hearing true app came shown → IsWholeHeard app came shown
hear_whole app came shown h = record { replies = h.replies; whole = h.heard; bytes = h.bytes; printed = h.printed }

pub hear_stop : (s : Stop) (app : ℕ) (came shown part tail : List ℕ) (left : Option (List ℕ)) (now : ℕ) → Hearing false app came shown
    → StopsHearing s app part tail left now → IsPartHeard s app (came ++ part) (shown ++ tail) left now
hear_stop s app came shown part tail left now h stops = record {
  replies = h.replies;
  part = part;
  tail = tail;
  early = h.heard;
  bytes = ap (λ (x : List ℕ). x ++ part) h.bytes;
  printed = ap (λ (x : List ℕ). x ++ tail) h.printed;
  stops = stops;
}

-- a reply has its header, at the least
pub one_long : (last : Bool) (app : ℕ) (came shown : List ℕ) → IsOne app came shown last → 8 ≤ length came
one_long last app came shown o =
    omega (arith, ap (λ (x : List ℕ). length x) o.bytes, length-append (header_bytes (reply_header app o.reply)) (reply_body o.reply))

-- a reply was read, and a front of its line was written
pub half_printed : (old new : Option (List ℕ)) (app : ℕ) (bytes piece : List ℕ) (r : Reply) (done : ℕ) → FitsReply r → bytes ≡ spell app r → piece ≡ line_of r
    → Sent false old new piece done → (printed : List ℕ) × WasWritten old printed new × IsHalfPrinted app bytes printed
half_printed old new app bytes piece r done f e line s = (
  take done piece,
  s.wrote,
  record { reply = r; fits = f; is = e; missing = drop done piece; line = take-append-drop done piece ∙ line; some = omega (arith, length-drop done piece, s.part refl) },
)
