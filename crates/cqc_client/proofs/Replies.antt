-- The bytes of a reply, its header, and how bytes of replies are cut: `cut_reply` is the main result.
use Rattle.std.proofs.Common.{◌≡◌, ℕ, zero, suc, ◌<◌, ◌^◌, List, [], ◌∷◌, ◌++◌, length, get_or, refl, sym, ap, ◌∙◌, arith, append_assoc}
use Rattle.std.proofs.lemmas.Nat.{be_bytes_2, be_bytes_4, from_be_bytes-to_be_bytes_2, from_be_bytes-to_be_bytes_4}
use Rattle.std.specs.Int.{w16, w32, to_be_bytes}
use Rattle.cqc_model.specs.declared.Header.{Header}
use Rattle.cqc_model.specs.declared.Reply.{Reply}
use Rattle.cqc_model.specs.Wire.{number_at, long_number_at, header_of, header_bytes, spell, reply_body}
use Rattle.cqc_model.specs.Plan.{with_message, cut}
use Rattle.cqc_model.proofs.Cuts.{cut_message, message_of}
use Rattle.cqc_wire.proofs.ReadBack.{body_short}
use Rattle.cqc_client.specs.Replies.{reply_header, as_message}

two_bytes : (a b : ℕ) → a < 256 → b < 256 → (i : ℕ) → get_or (a ∷ b ∷ []) i 0 < 256
two_bytes a b p q zero = p
two_bytes a b p q (suc zero) = q
two_bytes a b p q (suc (suc i)) = omega arith

four_bytes : (a b c d : ℕ) → a < 256 → b < 256 → c < 256 → d < 256 → (i : ℕ) → get_or (a ∷ b ∷ c ∷ d ∷ []) i 0 < 256
four_bytes a b c d p q r s zero = p
four_bytes a b c d p q r s (suc zero) = q
four_bytes a b c d p q r s (suc (suc zero)) = r
four_bytes a b c d p q r s (suc (suc (suc zero))) = s
four_bytes a b c d p q r s (suc (suc (suc (suc i)))) = omega arith

-- eight bytes are the bytes of the header that they are
pub spelled_again : (x : List ℕ) → length x ≡ 8 → ((i : ℕ) → get_or x i 0 < 256) → header_bytes (header_of x) ≡ x
spelled_again (v ∷ k ∷ a ∷ b ∷ c ∷ d ∷ e ∷ f ∷ []) l small =
    let app : to_be_bytes w16 (number_at 0 (a ∷ b ∷ [])) ≡ a ∷ b ∷ [] = be_bytes_2 (a ∷ b ∷ []) _ refl (two_bytes a b (small 2) (small 3)) refl in
    let size : to_be_bytes w32 (long_number_at 0 (c ∷ d ∷ e ∷ f ∷ [])) ≡ c ∷ d ∷ e ∷ f ∷ [] =
    be_bytes_4 (c ∷ d ∷ e ∷ f ∷ []) _ refl (four_bytes c d e f (small 4) (small 5) (small 6) (small 7)) refl in
    ap (λ x. v ∷ k ∷ (x ++ to_be_bytes w32 (long_number_at 0 (c ∷ d ∷ e ∷ f ∷ [])))) app ∙ ap (λ y. v ∷ k ∷ a ∷ b ∷ y) size
spelled_again _ l small = absurd (omega arith)

-- a header is read from its bytes
pub header_again : (h : Header) → h.app < 2 ^ 16 → h.length < 2 ^ 32 → header_of (header_bytes h) ≡ h
header_again h a l = rw (from_be_bytes-to_be_bytes_2 h.app a, from_be_bytes-to_be_bytes_4 h.length l) refl

-- the header in front of a reply's bytes
pub header_of_reply : (app : ℕ) (r : Reply) → app < 2 ^ 16 → header_of (header_bytes (reply_header app r)) ≡ reply_header app r
header_of_reply app r h = header_again (reply_header app r) h (body_short r)

-- a reply in front is cut off
pub cut_reply : (app : ℕ) (r : Reply) (later : List ℕ) → app < 2 ^ 16 → cut (spell app r ++ later) ≡ with_message (as_message app r) (cut later)
cut_reply app r later h =
    let front = header_bytes (reply_header app r) in
    let is : header_of front ≡ reply_header app r = header_of_reply app r h in
    ap cut (append_assoc front (reply_body r) later)
    ∙ cut_message front (reply_body r) later (record { eight = refl; size = sym (ap (λ (x : Header). x.length) is) })
    ∙ ap (λ (x : Header). with_message (message_of x (reply_body r)) (cut later)) is
