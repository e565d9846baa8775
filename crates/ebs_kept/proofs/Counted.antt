-- The slots of blocks, through calls one after another.
use Rattle.std.proofs.Common.{arith, ◌≡◌, ℕ, ◌+◌, List, Option, Some, None, refl, sym, ap, subst, ◌∙◌}
use Rattle.ebs_model.specs.declared.keys.Moment.{Moment}
use Rattle.ebs_model.specs.declared.request.Request.{Request}
use Rattle.ebs_model.specs.declared.change.Change.{Change}
use Rattle.ebs_model.specs.Machine.{Machine, advance}
use Rattle.ebs_model.specs.Step.{changed}
use Rattle.ebs_lineage.specs.Table.{NodeMap}
use Rattle.ebs_lineage.specs.Lines.{own}
use Rattle.ebs_collect.specs.Laws.{SameBlocksStayCounted}
use Rattle.ebs_holds.specs.declared.holder.Holder.{Holder}
use Rattle.ebs_holds.specs.Holds.{Holding, nodes_in}
use Rattle.ebs_holds.specs.Counted.{CountedBy, KeepsBlocks, KeepsCounted, put_place, replaced_at, replaced_by, replaced_in, without_stamp}
use Rattle.ebs_kept.specs.declared.place.Place.{Place}
use Rattle.ebs_kept.specs.declared.place.Place.TheVariants.{Upload, Volume}
use Rattle.ebs_kept.specs.inner.Shown.{Form}
use Rattle.ebs_kept.specs.inner.Requests.{Brings, write_at}
use Rattle.ebs_kept.specs.inner.Counted.{ChangesCounted}
use Rattle.ebs_kept.proofs.Changed.{brings-digest}

module _ (law : SameBlocksStayCounted) (a b c : NodeMap) where
  -- blocks stay before a change
  pub counted_before : (place : Option (Holder × ℕ)) (stamp : ℕ) (replaced : Option ℕ) → KeepsBlocks a b → CountedBy b c place stamp replaced → CountedBy a c place stamp replaced
  counted_before None stamp replaced keeps counted = λ n. counted n ∙ keeps n
  counted_before (Some place) stamp replaced keeps counted = λ s t slot was new given. counted s t slot (law a b s keeps was) new given

  -- and behind it
  pub counted_behind : (place : Option (Holder × ℕ)) (stamp : ℕ) (replaced : Option ℕ) → CountedBy a b place stamp replaced → KeepsBlocks b c → CountedBy a c place stamp replaced
  counted_behind None stamp replaced counted keeps = λ n. keeps n ∙ counted n
  counted_behind (Some place) stamp replaced counted keeps = λ s t slot was new given. law b c (without_stamp t replaced) keeps (counted s t slot was new given)

-- what a put replaces
pub same_replaced : (g h : Holding) → ((q : Holder) (index : ℕ) → replaced_by h q index ≡ replaced_by g q index) → (place : Option (Holder × ℕ)) → replaced_at h place ≡ replaced_at g place
same_replaced g h same None = refl
same_replaced g h same (Some place) = same place.0 place.1

-- ---- a call

pub nothing_counted : (f : Form) (request : Request) → ChangesCounted f f request
nothing_counted f request = (λ e n. refl, λ off. absurd (off refl))

-- that makes no change
pub idle_counted : (f g : Form) (request : Request) → g.machine.changes ≡ f.machine.changes → KeepsBlocks (nodes_in f.holding) (nodes_in g.holding) → ChangesCounted f g request
idle_counted f g request same keeps = (λ e. keeps, λ off. absurd (off same))

pub ticked_counted : (f g : Form) (now : Moment) (request : Request) → g.machine ≡ advance f.machine now → g.holding ≡ f.holding → ChangesCounted f g request
ticked_counted f g now request is held = idle_counted f g request (ap (λ (m : Machine). m.changes) is) (λ n. ap (λ (h : Holding). own (nodes_in h) n) held)

-- that makes one
one_more : (n : ℕ) → n + 1 ≡ n → ⊥
one_more n e = omega (arith, e)

pub change_counted : (f g : Form) (request : Request) → g.machine.changes ≡ f.machine.changes + 1 → KeepsCounted (nodes_in f.holding) (nodes_in g.holding) request f.machine.stamps (replaced_in f.holding request) → ChangesCounted f g request
change_counted f g request more counted = (λ same. absurd (one_more f.machine.changes (sym more ∙ same)), λ off. counted)

-- room is kept, and then a change is made
pub made_counted : SameBlocksStayCounted → (f g h : Form) (now : Moment) (change : Change) (digest : List ℕ) → g.machine ≡ f.machine → KeepsBlocks (nodes_in f.holding) (nodes_in g.holding)
    → ((q : Holder) (index : ℕ) → replaced_by g.holding q index ≡ replaced_by f.holding q index)
    → ((bytes : List ℕ) → Brings change.request digest bytes → h.machine ≡ changed (advance g.machine now) bytes change)
    → KeepsCounted (nodes_in g.holding) (nodes_in h.holding) change.request g.machine.stamps (replaced_in g.holding change.request) → ChangesCounted f h change.request
made_counted law f g h now change digest same keeps replaced made counted =
    let place : Option (Holder × ℕ) = put_place change.request in
    let more = ap (λ (m : Machine). m.changes) (made digest (brings-digest change.request digest)) ∙ ap (λ (m : Machine). m.changes + 1) same in
    let as_was = subst (λ (x : ℕ × Option ℕ). CountedBy (nodes_in g.holding) (nodes_in h.holding) place x.0 x.1) (λ i. ((same i).stamps, same_replaced f.holding g.holding replaced place i)) counted in
    change_counted f h change.request more (counted_before law (nodes_in f.holding) (nodes_in g.holding) (nodes_in h.holding) place f.machine.stamps (replaced_at f.holding place) keeps as_was)

-- a request that puts its block where another does
pub counted_as : (f g : Form) (made asked : Request) → put_place made ≡ put_place asked → ChangesCounted f g made → ChangesCounted f g asked
counted_as f g made asked same counted = (
  counted.0,
  λ off. subst (λ (place : Option (Holder × ℕ)). CountedBy (nodes_in f.holding) (nodes_in g.holding) place f.machine.stamps (replaced_at f.holding place)) same (counted.1 off),
)

pub write-place : (place : Place) (index : ℕ) (digest left bytes : List ℕ) → put_place (write_at place index digest left) ≡ put_place (write_at place index digest bytes)
write-place (Upload key) index digest left bytes = refl
write-place (Volume key) index digest left bytes = refl
