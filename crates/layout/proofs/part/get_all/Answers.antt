use Prim.Native.Nat.{◌+◌, ◌*◌}
use Rattle.layout.specs.Layout.{from}
use Rattle.layout.proofs.InOrder.{made}
use borrow.Author.Rules.{rules}
use Rattle.layout.proofs.part.get_all.Goals as goal

pub returns : goal.returns
returns g c = made _ (λ i. g.P.Part.part_of (from c.args.words.now (c.args.at + g.P.Part.WIDTH * i))) _ _ (λ i y q l. search rules) _ c.from_fn.ensures.items
