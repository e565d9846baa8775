use Rattle.std.proofs.Common.{◌≡◌, Option, Some, None, IsSome, refl, sym, ◌∙◌}
use Rattle.std.proofs.lemmas.Bool.{false≢true}
use Rattle.ebs_lineage.proofs.Judged.{passes, lives}
use Rattle.ebs_lineage.proofs.Found.{clear-self, found-live, live-found}
use Rattle.ebs_lineage.proofs.Onward.{on-self}
use Rattle.ebs_lineage.proofs.judge.is_found.Goals as goal

some_of : {A : Type 0} (o : Option A) → IsSome o → (x : A) × (o ≡ Some x)
some_of None h = absurd (false≢true h)
some_of (Some x) h = (x, refl)

pub returns-then-not-is_whole-clause-found : goal.returns-then-not-is_whole-clause-found
returns-then-not-is_whole-clause-found c =
    let nodes = c.args.nodes.now.nodes in
    let block = some_of _ c.requires.kept in (
      λ yes. lives nodes c.args.made c.requires.lines c.args.index c.args.node block.0 block.1 (c.is_passed_on.ensures.0 yes),
      λ live. c.is_passed_on.ensures.1 (passes nodes c.args.made c.requires.lines c.args.index c.args.node block.0 block.1 c.requires.free live),
    )

pub is_found_from-requires-clause-known : goal.is_found_from-requires-clause-known
is_found_from-requires-clause-known c = c.requires.known (sym c.is_whole.ensures ∙ c.if-not-is_whole.false)

pub is_found_from-requires-clause-below : goal.is_found_from-requires-clause-below
is_found_from-requires-clause-below c = on-self c.args.nodes.now.nodes c.args.node

pub is_found_from-requires-clause-clear : goal.is_found_from-requires-clause-clear
is_found_from-requires-clause-clear c =
    clear-self c.args.nodes.now.nodes c.args.made c.requires.lines c.args.node c.args.index c.args.hiders.now (c.requires.known (sym c.is_whole.ensures ∙ c.if-not-is_whole.false))

pub returns-clause-found : goal.returns-clause-found
returns-clause-found c = (
  λ yes. found-live c.args.nodes.now.nodes c.args.node c.args.index c.args.node (c.is_found_from.ensures.found.0 yes),
  λ live. c.is_found_from.ensures.found.1 (live-found c.args.nodes.now.nodes c.args.node c.args.index live),
)
