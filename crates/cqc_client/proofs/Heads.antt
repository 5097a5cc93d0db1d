-- Which headers replies have: a type that a reply has is that of a reply with the length that the type says.
use Rattle.std.proofs.Common.{◌≡◌, ◌≢◌, ℕ, length, Some, None, true, sym, ap, ◌∙◌, arith, ⊎_elim, ◌↔◌, IsTrue, nat_eq}
use Rattle.std.proofs.lemmas.Bool.{cases_eq}
use Rattle.std.proofs.lemmas.Bool.Decides.{nat_tests}
use Rattle.cqc_model.specs.declared.Header.{Header}
use Rattle.cqc_model.specs.declared.PairInfo.{PairInfo}
use Rattle.cqc_model.specs.declared.Fault.TheVariants as fault
use Rattle.cqc_model.specs.declared.Reply.{Reply}
use Rattle.cqc_model.specs.declared.Reply.TheVariants as reply
use Rattle.cqc_model.specs.Wire.{reply_kind, reply_body, reply_size}
use Rattle.cqc_model.specs.Ranges.{FitsReply, FitsPair}
use Rattle.cqc_client.specs.Replies.{reply_header, BeginsReply}
use Rattle.cqc_wire.proofs.ReadBack.{size_of}

-- a reply of a type, with a length
pub record Kind (k n : ℕ) : Type 0 where
  pub reply : Reply
  pub fits : FitsReply reply
  pub kind : k ≡ reply_kind reply
  pub size : n ≡ length (reply_body reply)

abbrev no_pair : PairInfo
no_pair = record { node_a = 0; port_a = 0; app_a = 0; node_b = 0; port_b = 0; app_b = 0; pair = 0 }

no_pair_fits : FitsPair no_pair
no_pair_fits = record { node_a = omega arith; port_a = omega arith; app_a = omega arith; node_b = omega arith; port_b = omega arith; app_b = omega arith; pair = omega arith }

found : (k n : ℕ) (r : Reply) → FitsReply r → reply_size k ≡ Some n → k ≡ reply_kind r → Kind k n
found k n r f e h =
    let same : Some n ≡ Some (length (reply_body r)) = sym e ∙ ap reply_size h ∙ size_of r in
    record { reply = r; fits = f; kind = h; size = (cc) }

none : (k : ℕ) → k ≢ 0 → k ≢ 4 → k ≢ 10 → k ≢ 5 → k ≢ 7 → k ≢ 6 → k ≢ 20 → k ≢ 21 → k ≢ 22 → k ≢ 23 → k ≢ 25 → reply_size k ≡ None
none k a b c d e f g h i j l = grind (arith, nat_tests)

pub kind_of : (k n : ℕ) → reply_size k ≡ Some n → Kind k n
kind_of k n e =
    ⊎_elim (found k n reply.Hello tt e) (λ (a : k ≢ 0).
    ⊎_elim (found k n reply.Done tt e) (λ (b : k ≢ 4).
    ⊎_elim (found k n (reply.New 0) (omega arith) e) (λ (c : k ≢ 10).
    ⊎_elim (found k n (reply.Received 0) (omega arith) e) (λ (d : k ≢ 5).
    ⊎_elim (found k n (reply.Outcome true) tt e) (λ (o : k ≢ 7).
    ⊎_elim (found k n (reply.Pair 0 no_pair) (omega arith, no_pair_fits) e) (λ (f : k ≢ 6).
    ⊎_elim (found k n (reply.Error fault.General) tt e) (λ (g : k ≢ 20).
    ⊎_elim (found k n (reply.Error fault.NoQubit) tt e) (λ (h : k ≢ 21).
    ⊎_elim (found k n (reply.Error fault.Unsupported) tt e) (λ (i : k ≢ 22).
    ⊎_elim (found k n (reply.Error fault.Timeout) tt e) (λ (j : k ≢ 23).
    ⊎_elim (found k n (reply.Error fault.Unknown) tt e) (λ (l : k ≢ 25).
    absurd (never (sym (none k a b c d o f g h i j l) ∙ e)))
    (cases_eq k 25)) (cases_eq k 23)) (cases_eq k 22)) (cases_eq k 21)) (cases_eq k 20)) (cases_eq k 6)) (cases_eq k 7)) (cases_eq k 5)) (cases_eq k 10)) (cases_eq k 4)) (cases_eq k 0)
  where
    never : None ≡ Some n → ⊥
    never e = cc

abbrev make : ℕ → ℕ → ℕ → ℕ → Header
make v k a l = record { version = v; kind = k; app = a; length = l }

-- a header of version 2 that says its type's length is a reply's, and only such a header
pub begins : (app : ℕ) (h : Header) → h.version ≡ 2 → h.app ≡ app → reply_size h.kind ≡ Some h.length → BeginsReply app h
begins app h v a s =
    let k = kind_of h.kind h.length s in
    (k.reply, k.fits, same h (reply_header app k.reply) v k.kind a k.size)
  where
    same : (x y : Header) → x.version ≡ y.version → x.kind ≡ y.kind → x.app ≡ y.app → x.length ≡ y.length → x ≡ y
    same x y a b c d =
        ap (λ (v : ℕ). make v x.kind x.app x.length) a ∙ ap (λ (k : ℕ). make y.version k x.app x.length) b
        ∙ ap (λ (p : ℕ). make y.version y.kind p x.length) c ∙ ap (λ (l : ℕ). make y.version y.kind y.app l) d

pub record IsSuch (app : ℕ) (h : Header) : Type 0 where
  pub version : h.version ≡ 2
  pub same_app : h.app ≡ app
  pub size : reply_size h.kind ≡ Some h.length

pub such : (app : ℕ) (h : Header) → BeginsReply app h → IsSuch app h
such app h b = record {
  version = ap (λ (x : Header). x.version) b.2;
  same_app = ap (λ (x : Header). x.app) b.2;
  size = ap (λ (x : Header). reply_size x.kind) b.2 ∙ size_of b.0 ∙ ap (λ (x : Header). Some x.length) (sym b.2);
}

-- the last test of a header
pub decides : (app : ℕ) (h : Header) (size : ℕ) → reply_size h.kind ≡ Some size → h.version ≡ 2 → h.app ≡ app
    → IsTrue (nat_eq h.length size) ↔ BeginsReply app h
decides app h size s v a = (
  λ t. begins app h v a (s ∙ ap Some (sym (length_is t))),
  λ b. is_size b,
)
  where
    length_is : IsTrue (nat_eq h.length size) → h.length ≡ size
    length_is t = grind (arith, nat_tests)

    is_size : BeginsReply app h → IsTrue (nat_eq h.length size)
    is_size b =
        let e : Some h.length ≡ Some size = sym ((such app h b).size) ∙ s in
        let l : h.length ≡ size = (cc) in
        grind (arith, nat_tests)
