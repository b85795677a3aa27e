use Rattle.std.proofs.Common.{◌≡◌, ◌≤◌, length, arith, rules}
use Rattle.hol_types.proofs.MarkLemmas.{cut_part}
use Rattle.hol_terms.proofs.tables.reset_in.Goals as goal

pub returns : goal.returns
returns c =
    let below = rw (← c.base.view_is) at c.requires.below in
    let long = rw (← c.base.view_is) at c.requires.lawful.long in
    let reaches_long = rw (← c.base.view_is) at c.requires.lawful.reaches_long in
    let below_tys : length c.base.inside.tys.items ≤ c.args.mark.nodes = omega (arith, long, below.nodes) in
    let below_reaches : length c.base.inside.reaches.items ≤ c.args.mark.nodes = omega (arith, reaches_long, below.nodes) in
    let count_tys : c.len-2.result ≡ length c.base.inside.tys.items = search rules in
    let count_reaches : c.len-3.result ≡ length c.base.inside.reaches.items = search rules in
    let nodes = cut_part c.base.inside.nodes c.own.inside.nodes c.truncate.new.self c.args.mark.nodes c.len.result c.len.ensures.len below.nodes c.truncate.ensures in
    let tys = cut_part c.base.inside.tys.items c.own.inside.tys.items c.truncate-2.new.self.items c.args.mark.nodes c.len-2.result count_tys below_tys c.truncate-2.ensures.items in
    let reaches = cut_part c.base.inside.reaches.items c.own.inside.reaches.items c.truncate-3.new.self.items c.args.mark.nodes c.len-3.result count_reaches below_reaches c.truncate-3.ensures.items in
    let types = c.reset_in.ensures in
    rw (← c.base.view_is, ← c.own.view_is) (λ i. record { types = types i; nodes = nodes i; tys = tys i; reaches = reaches i })
