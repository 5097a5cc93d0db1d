use Rattle.std.proofs.Common.{◌≡◌, take, true, false, ap, ◌∙◌, arith}
use Rattle.std.proofs.lemmas.Slice.Eq.{bytes_eq-Decides}
use Rattle.cqc_model.specs.Wire.{reply_body}
use Rattle.cqc_wire.proofs.ReadBack.{reads_as}
use Rattle.cqc_wire.proofs.replies.read_reply.Goals as goal

pub returns-else-eq : goal.returns-else-eq
returns-else-eq c = λ r fits e.
    let a = reads_as c.args.head.now c.args.body.now r (omega arith) fits e in
    let is : c.reply_in-reply.result ≡ r = c.reply_in-reply.ensures ∙ a.is in
    let same : take c.put_body-size.result c.put_body-size.new.out ≡ c.args.body.now = c.put_body-size.ensures.bytes ∙ ap reply_body is ∙ a.text in
    never (c.if-eq.ensures ∙ (bytes_eq-Decides (take c.put_body-size.result c.put_body-size.new.out) c.args.body.now).1 same)
  where
    never : false ≡ true → ⊥
    never e = cc
