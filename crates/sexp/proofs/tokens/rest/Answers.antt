use Rattle.sexp.proofs.TokensLemmas.{takes_none, takes}
use Rattle.sexp.proofs.tokens.rest.Goals as goal

pub tokens-init : goal.tokens-init
tokens-init c = takes_none c.args.reader.now c.args.out.now.items

pub tokens-preserved : goal.tokens-preserved
tokens-preserved c =
    takes c.args.reader.now c.tokens.reader c.next.new.self c.args.out.now.items c.tokens.out.items c.push.new.self.items c.next.result c.in-Ok-Token.token _
    c.tokens.invariant (rw c.in-Ok-Token.field-0-is at c.in-Ok-Token.is) c.next.ensures.again c.next.ensures.too_long c.next.ensures.next c.next.ensures.kept c.next.ensures.fed
    c.in-Ok.ensures.items
