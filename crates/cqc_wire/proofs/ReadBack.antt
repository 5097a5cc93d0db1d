-- A reply is read where its bytes are those of the reply that it seems to be.
use Rattle.std.proofs.Common.{◌≡◌, ℕ, ◌<◌, ◌^◌, List, [], ◌++◌, length, drop, Some, true, false, refl, sym, ap, ◌∙◌, arith}
use Rattle.std.specs.Prelude.{slice_index}
use Rattle.std.proofs.lemmas.List.{append-nil}
use Rattle.std.proofs.lemmas.Nat.{from_be_bytes-to_be_bytes_4}
use Rattle.cqc_model.specs.declared.Header.{Header}
use Rattle.cqc_model.specs.declared.Fault.TheVariants as fault
use Rattle.cqc_model.specs.declared.Reply.{Reply}
use Rattle.cqc_model.specs.declared.Reply.TheVariants as reply
use Rattle.cqc_model.specs.Wire.{long_number_at, header_bytes, spell, reply_kind, reply_body, reply_size, reply_of, HasReply}
use Rattle.cqc_model.specs.Ranges.{FitsReply}
use Rattle.cqc_model.proofs.Prefixes.{read_again}

-- a reply has the length that its type says
pub size_of : (r : Reply) → reply_size (reply_kind r) ≡ Some (length (reply_body r))
size_of reply.Hello = refl
size_of reply.Done = refl
size_of (reply.New id) = refl
size_of (reply.Received id) = refl
size_of (reply.Outcome true) = refl
size_of (reply.Outcome false) = refl
size_of (reply.Pair id info) = refl
size_of (reply.Error fault.General) = refl
size_of (reply.Error fault.NoQubit) = refl
size_of (reply.Error fault.Unsupported) = refl
size_of (reply.Error fault.Timeout) = refl
size_of (reply.Error fault.Unknown) = refl

-- its length fits a header
pub body_short : (r : Reply) → length (reply_body r) < 2 ^ 32
body_short reply.Hello = omega arith
body_short reply.Done = omega arith
body_short (reply.New id) = omega arith
body_short (reply.Received id) = omega arith
body_short (reply.Outcome true) = omega arith
body_short (reply.Outcome false) = omega arith
body_short (reply.Pair id info) = omega arith
body_short (reply.Error f) = omega arith

-- what a header and the bytes behind it are, where they are a reply's
pub record ReadsAs (h : Header) (body : List ℕ) (r : Reply) : Type 0 where
  pub version : h.version ≡ 2
  pub kind : reply_kind r ≡ h.kind
  pub text : reply_body r ≡ body
  pub size : h.length ≡ length body
  pub sized : reply_size h.kind ≡ Some (length body)
  pub is : reply_of h.kind body ≡ r

pub reads_as : (h : Header) (body : List ℕ) (r : Reply) → h.length < 2 ^ 32 → FitsReply r → HasReply h body r → ReadsAs h body r
reads_as h body r long fits e =
    let kind : h.kind ≡ reply_kind r = ap (λ (x : List ℕ). slice_index x 1) e in
    let text : body ≡ reply_body r = ap (λ (x : List ℕ). drop 8 x) e in
    let size : long_number_at 4 (header_bytes h ++ body) ≡ long_number_at 4 (spell h.app r) = ap (λ (x : List ℕ). long_number_at 4 x) e in
    record {
      version = ap (λ (x : List ℕ). slice_index x 0) e;
      kind = sym kind;
      text = sym text;
      size = sym (from_be_bytes-to_be_bytes_4 h.length long) ∙ size ∙ from_be_bytes-to_be_bytes_4 (length (reply_body r)) (body_short r)
          ∙ ap (λ (x : List ℕ). length x) (sym text);
      sized = ap reply_size kind ∙ size_of r ∙ ap (λ (x : List ℕ). Some (length x)) (sym text);
      is = ap (λ k. reply_of k body) kind ∙ ap (reply_of (reply_kind r)) (text ∙ sym (append-nil (reply_body r))) ∙ read_again r [] fits;
    }
