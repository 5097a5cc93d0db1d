-- What came behind a header that begins a reply: a part of a body, or a whole one that makes it none.
use Rattle.std.proofs.Common.{◌≡◌, ℕ, ◌<◌, ◌^◌, List, ◌++◌, length, take, Option, Err, refl, sym, ap, subst, ◌∙◌, arith, length-append, inl, inr}
use Rattle.std.proofs.lemmas.List.{take_all}
use Rattle.cqc_model.specs.declared.Header.{Header}
use Rattle.cqc_model.specs.declared.Reply.{Reply}
use Rattle.cqc_model.specs.Wire.{header_of, header_bytes, HasReply}
use Rattle.cqc_model.specs.Ranges.{FitsReply}
use Rattle.cqc_model.specs.Plan.{body_size}
use Rattle.cqc_model.proofs.Cuts.{short_part, body_part, header_front}
use Rattle.cqc_client.specs.declared.stops.Stop.{Stop}
use Rattle.cqc_client.specs.declared.stops.Stop.TheVariants as stop
use Rattle.cqc_client.specs.Replies.{BeginsReply, IsReply, IsPartOfReply, IsStrange}
use Rattle.cqc_client.specs.Stops.{FillsDue, StopsDue}
use Rattle.cqc_wire.proofs.ReadBack.{body_short}
use Rattle.cqc_client.proofs.Replies.{header_again}

-- less than a header is a part of a reply
pub front_part : (app : ℕ) (bytes : List ℕ) → length bytes < 8 → IsPartOfReply app bytes
front_part app bytes h = record { short = short_part bytes h; header = λ k. absurd (omega arith) }

short_length : (app : ℕ) (h : Header) → BeginsReply app h → h.length < 2 ^ 32
short_length app h b = subst (λ (n : ℕ). n < 2 ^ 32) (sym (ap (λ (x : Header). x.length) b.2)) (body_short b.0)

-- the header is read whatever follows
pub header_is : (app : ℕ) (h : Header) (taken : List ℕ) → h.app < 2 ^ 16 → BeginsReply app h → header_of (header_bytes h ++ taken) ≡ h
header_is app h taken a b = header_front (header_bytes h) taken refl ∙ header_again h a (short_length app h b)

-- a header with less than its body is a part of a reply
pub body_is_part : (app : ℕ) (h : Header) (taken : List ℕ) → h.app < 2 ^ 16 → BeginsReply app h → length taken < h.length
    → IsPartOfReply app (header_bytes h ++ taken)
body_is_part app h taken a b less =
    let is = header_is app h taken a b in
    let size : body_size (header_bytes h ++ taken) ≡ h.length = ap (λ (x : Header). x.length) is in
    record {
      short = body_part (header_bytes h ++ taken) (omega (arith, length-append (header_bytes h) taken, size));
      header = λ k. subst (BeginsReply app) (sym is) b;
    }

pub front_stops : (s : Stop) (app : ℕ) (taken : List ℕ) (left : Option (List ℕ)) (now : ℕ) → FillsDue (Err s) taken 8 left now → StopsDue s app taken left now
front_stops stop.Ended app taken left now f = (front_part app taken f.0, f.1, f.2)
front_stops stop.NotRead app taken left now f = (front_part app taken f.0, f.1)
front_stops stop.Spent app taken left now f = (front_part app taken f.0, f.1)
front_stops (stop.Strange kind) app taken left now f = absurd f
front_stops stop.NotSent app taken left now f = absurd f
front_stops stop.NotPrinted app taken left now f = absurd f

pub body_stops : (s : Stop) (app : ℕ) (h : Header) (taken : List ℕ) (size : ℕ) (left : Option (List ℕ)) (now : ℕ) → h.app < 2 ^ 16 → BeginsReply app h
    → size ≡ h.length → FillsDue (Err s) taken size left now → StopsDue s app (header_bytes h ++ taken) left now
body_stops stop.Ended app h taken size left now a b e f = (body_is_part app h taken a b (omega (arith, f.0)), f.1, f.2)
body_stops stop.NotRead app h taken size left now a b e f = (body_is_part app h taken a b (omega (arith, f.0)), f.1)
body_stops stop.Spent app h taken size left now a b e f = (body_is_part app h taken a b (omega (arith, f.0)), f.1)
body_stops (stop.Strange kind) app h taken size left now a b e f = absurd f
body_stops stop.NotSent app h taken size left now a b e f = absurd f
body_stops stop.NotPrinted app h taken size left now a b e f = absurd f

-- a whole body that makes a header none of a reply
pub strange_body : (h : Header) (taken room : List ℕ) → h.app < 2 ^ 16 → BeginsReply h.app h → length taken ≡ h.length → length room ≡ h.length
    → taken ≡ take (length taken) room → ((r : Reply) → FitsReply r → ¬ HasReply h room r) → IsStrange h.app (header_bytes h ++ taken)
strange_body h taken room a b l k e never =
    let is = header_is h.app h taken a b in
    let size : body_size (header_bytes h ++ taken) ≡ h.length = ap (λ (x : Header). x.length) is in
    let same : taken ≡ room = e ∙ take_all (length taken) room (omega arith) in
    inr (
      subst (BeginsReply h.app) (sym is) b,
      omega (arith, length-append (header_bytes h) taken, size),
      λ (r : IsReply h.app (header_bytes h ++ taken)). never r.0 r.1 (ap (λ (x : List ℕ). header_bytes h ++ x) (sym same) ∙ r.2),
    )

-- a header that begins no reply
pub strange_front : (app : ℕ) (h : Header) (taken : List ℕ) → length taken ≡ 8 → h ≡ header_of taken → ¬ BeginsReply app h → IsStrange app taken
strange_front app h taken l e never = inl (l, λ (b : BeginsReply app (header_of taken)). never (subst (BeginsReply app) (sym e) b))
