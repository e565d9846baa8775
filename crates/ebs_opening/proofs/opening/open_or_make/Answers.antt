use Rattle.std.proofs.Common.{◌∙◌, inr, sym, ap}
use Rattle.ebs_recovery.specs.Stands.{no_secret}
use Rattle.ebs_recovery.specs.inner.Fits.{Seen}
use Rattle.ebs_opening.proofs.Having as lemma
use Rattle.ebs_opening.proofs.opening.open_or_make.Goals as goal

pub returns-in-Ok-clause-machine : goal.returns-in-Ok-clause-machine
returns-in-Ok-clause-machine g c = λ told honest m stands. lemma.has_opened (g.D.Disk.view c.args.disk.now) (g.D.Disk.view c.open.new.disk) c.in-Ok.store m stands (c.in-Ok.ensures.machine told honest m)

pub returns-in-Ok-clause-moments : goal.returns-in-Ok-clause-moments
returns-in-Ok-clause-moments g c = λ told honest m stands all. lemma.still_standing (g.D.Disk.view c.args.disk.now) (g.D.Disk.view c.open.new.disk) m c.open.ensures.ran honest all

pub returns-then-is_unmade-clause-machine : goal.returns-then-is_unmade-clause-machine
returns-then-is_unmade-clause-machine g c =
    let old = g.D.Disk.view c.args.disk.now in
    let mid = g.D.Disk.view c.open.new.disk in
    lemma.if_ok (λ s is told honest m stands. lemma.has_made (g.D.Disk.view c.make.new.disk) s no_secret m is
    (lemma.is_empty old.reads m c.new_stands.ensures.unmade c.one_machine.ensures (lemma.unmarked old mid c.in-Err.why (sym c.is_unmade.ensures ∙ c.if-is_unmade.true) c.in-Err.ensures.refused told) stands)
    (c.standing_rests.ensures old.reads m stands))
    c.make.result c.make.ensures.store

pub returns-then-is_unmade-clause-moments : goal.returns-then-is_unmade-clause-moments
returns-then-is_unmade-clause-moments g c = λ told honest m stands all.
    let old = g.D.Disk.view c.args.disk.now in
    let mid = g.D.Disk.view c.open.new.disk in
    lemma.making old mid (g.D.Disk.view c.make.new.disk) m c.open.ensures.ran told honest all
    (lemma.is_empty old.reads m c.new_stands.ensures.unmade c.one_machine.ensures (lemma.unmarked old mid c.in-Err.why (sym c.is_unmade.ensures ∙ c.if-is_unmade.true) c.in-Err.ensures.refused told) stands)
    c.make.ensures.moments

pub returns-then-is_unmade-clause-refused : goal.returns-then-is_unmade-clause-refused
returns-then-is_unmade-clause-refused g c =
    let old = g.D.Disk.view c.args.disk.now in
    let mid = g.D.Disk.view c.open.new.disk in
    let none = lemma.unmarked old mid c.in-Err.why (sym c.is_unmade.ensures ∙ c.if-is_unmade.true) c.in-Err.ensures.refused in
    lemma.if_err (λ refusal why. lemma.untold old mid (g.D.Disk.view c.make.new.disk) refusal c.open.ensures.ran none why) c.make.result c.make.ensures.refused

pub returns-then-is_unmade-clause-stood : goal.returns-then-is_unmade-clause-stood
returns-then-is_unmade-clause-stood g c =
    let old = g.D.Disk.view c.args.disk.now in
    let mid = g.D.Disk.view c.open.new.disk in
    let none = lemma.unmarked old mid c.in-Err.why (sym c.is_unmade.ensures ∙ c.if-is_unmade.true) c.in-Err.ensures.refused in
    lemma.if_err (λ refusal why told m stands. lemma.stood old mid (g.D.Disk.view c.make.new.disk) refusal m c.open.ensures.ran none why told) c.make.result c.make.ensures.refused

pub returns-then-is_unmade-clause-ran : goal.returns-then-is_unmade-clause-ran
returns-then-is_unmade-clause-ran g c = lemma.ran_made (g.D.Disk.view c.args.disk.now) (g.D.Disk.view c.open.new.disk) (g.D.Disk.view c.make.new.disk) c.open.ensures.ran c.make.ensures.ran

pub returns-clause-refused : goal.returns-clause-refused
returns-clause-refused g c = lemma.unready (g.D.Disk.view c.args.disk.now) (g.D.Disk.view c.open.new.disk) c.in-Err.why (sym c.is_unmade.ensures ∙ c.if-is_unmade.false) c.in-Err.ensures.refused

pub returns-clause-moments : goal.returns-clause-moments
returns-clause-moments g c = λ told honest m stands all. lemma.still_standing (g.D.Disk.view c.args.disk.now) (g.D.Disk.view c.open.new.disk) m c.open.ensures.ran honest all

pub returns-in-Ok-clause-read : goal.returns-in-Ok-clause-read
returns-in-Ok-clause-read g c = λ told. lemma.had_read (g.D.Disk.view c.args.disk.now) c.in-Ok.store (c.in-Ok.ensures.read told)

pub returns-then-is_unmade-clause-read : goal.returns-then-is_unmade-clause-read
returns-then-is_unmade-clause-read g c =
    let none = lemma.unmarked (g.D.Disk.view c.args.disk.now) (g.D.Disk.view c.open.new.disk) c.in-Err.why (sym c.is_unmade.ensures ∙ c.if-is_unmade.true) c.in-Err.ensures.refused in
    lemma.if_ok (λ s is told. inr (none told, is)) c.make.result c.make.ensures.store

pub returns-then-is_unmade-clause-unwritten : goal.returns-then-is_unmade-clause-unwritten
returns-then-is_unmade-clause-unwritten g c = λ told marked.
    absurd (marked (lemma.unmarked (g.D.Disk.view c.args.disk.now) (g.D.Disk.view c.open.new.disk) c.in-Err.why (sym c.is_unmade.ensures ∙ c.if-is_unmade.true) c.in-Err.ensures.refused told))

pub returns-then-is_unmade-clause-unleased : goal.returns-then-is_unmade-clause-unleased
returns-then-is_unmade-clause-unleased g c = lemma.if_ok (λ s is. ap (λ (x : Seen). x.slots.leases) is) c.make.result c.make.ensures.store
