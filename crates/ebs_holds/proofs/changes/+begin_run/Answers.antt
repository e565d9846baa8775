use Rattle.std.proofs.Common.{length, arith, sym, subst, ◌∙◌}
use Rattle.ebs_holds.specs.Holds.{blocks_at, HasNodes}
use Rattle.ebs_holds.specs.Changes.{AreReady, runs}
use Rattle.ebs_holds.proofs.Rest.{rest_of, fewer, first-rest}
use Rattle.ebs_holds.proofs.Ready.{still_ready}
use Rattle.ebs_holds.proofs.changes.+begin_run.Goals as goal

pub begin_run-requires : goal.begin_run-requires
begin_run-requires t c =
    let made = c.args.made.now in
    let sources = c.args.sources.now in
    let is = first-rest made c.id-item.result c.in-len1-up-made.len_at_least c.id-item.is in
    let less = fewer sources c.in-len1-up.len_at_least in
    let ready = subst (AreReady c.args.holdings.now) is c.requires.ready in
    let room = subst (HasNodes c.args.holdings.now) (sym (fewer made c.in-len1-up-made.len_at_least)) c.requires.room in (
      omega (arith, less, c.decreases),
      record {
        ready = still_ready c.args.holdings.now c.begin_one.new.holdings c.begin_one.ensures.ready (rest_of made) ready.1;
        room = c.begin_one.ensures.room (length (rest_of made)) room;
      },
    )

pub returns-in-len1-up-made-clause-arrays : goal.returns-in-len1-up-made-clause-arrays
returns-in-len1-up-made-clause-arrays t c = λ q.
    let made = c.args.made.now in
    let sources = c.args.sources.now in
    let arrays = blocks_at c.args.holdings.now in
    let is = first-rest made c.id-item.result c.in-len1-up-made.len_at_least c.id-item.is in
    let from = first-rest sources c.source-item.result c.in-len1-up.len_at_least c.source-item.is in
    c.begin_run.ensures.arrays q ∙ (λ i. runs (λ k. c.begin_one.ensures.arrays k i) (rest_of made) (rest_of sources) q) ∙ (λ i. runs arrays (sym is i) (sym from i) q)
