use Rattle.std.proofs.Common.{◌-◌, sym, ap, ◌∙◌}
use Rattle.std.specs.Ordering.{nat_cmp}
use Rattle.std.specs.Cmp.{nat_cmp_total}
use Rattle.std.specs.FinMap.{insert}
use Rattle.ebs_tables.specs.Full.{slots_of, held}
use Rattle.ebs_tables.proofs.FullLaws.{ready-some}
use Rattle.ebs_catalog.proofs.CountedVolumes.{volume-less}
use Rattle.ebs_catalog.proofs.catalog.one_volume_less.Goals as goal

pub fill-requires : goal.fill-requires
fill-requires c = c.take.ensures.ready c.args.account ∙ ready-some nat_cmp_total (slots_of nat_cmp c.args.owns.now) c.args.account c.in-Some.found (sym c.in-Some.ensures.value)

pub returns : goal.returns
returns c =
    volume-less (held nat_cmp c.args.owns.now) (held nat_cmp c.fill.new.self) c.args.account c.in-Some.found (sym c.in-Some.ensures.value) c.requires
    (c.fill.ensures.held ∙ ap (λ x. insert x c.args.account (record c.in-Some.found { volumes = c.in-Some.found.volumes - 1 })) c.take.ensures.held)
