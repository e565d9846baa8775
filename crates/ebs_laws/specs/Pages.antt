-- Lists that are read page by page.
use Rattle.std.specs.Prelude.{◌≡◌, ◌⊎◌, ℕ, zero, suc, ◌==◌, cond, List, [], ◌∷◌, ◌++◌, map, unwrap_or, flat_map}
use Rattle.std.specs.Option.{option_map}
use Rattle.std.specs.declared.option.Option.{Option}
use Rattle.std.specs.declared.option.Option.TheVariants.{None, Some}
use Rattle.ebs_model.specs.declared.keys.SnapKey.{SnapKey}
use Rattle.ebs_model.specs.declared.keys.Moment.{Moment}
use Rattle.ebs_model.specs.declared.request.Request.TheVariants.{ListSnapshotBlocks}
use Rattle.ebs_model.specs.declared.entries.BlockEntry.{BlockEntry}
use Rattle.ebs_model.specs.declared.entries.ChangedToken.{ChangedToken}
use Rattle.ebs_model.specs.declared.answer.Answer.{Answer}
use Rattle.ebs_model.specs.declared.answer.Answer.TheVariants.{BlockList, ChangedList}
use Rattle.ebs_model.specs.Arrays.{WholeBlock}
use Rattle.ebs_model.specs.Lists.{Pair}
use Rattle.ebs_model.specs.Machine.{Machine}
use Rattle.ebs_model.specs.Step.{step}
use Rattle.ebs_model.specs.Timed.{Timed, after_all}

-- the entries of a page, and the token of the page that follows
abbrev pub block_page : Answer → List BlockEntry × Option (List ℕ)
block_page (BlockList entries expiry next size) = (entries, next)
block_page answer = ([], None)

abbrev pub change_page : Answer → List ChangedToken × Option (List ℕ)
change_page (ChangedList entries expiry next size) = (entries, next)
change_page answer = ([], None)

-- the token that a change has for one of the two snapshots
abbrev pub HasToken : SnapKey → SnapKey → ChangedToken → SnapKey → List ℕ → Type 0
HasToken first second e key token = ((key ≡ first) × (e.first ≡ Some token)) ⊎ ((key ≡ second) × (e.second ≡ Some token))

-- at most so many pages, one after the other: each is asked for with the token that the one before it gave
abbrev pub pages_read : {E : Type 0} → (Answer → List E × Option (List ℕ)) → (Machine → Option (List ℕ) → Machine × Answer) → ℕ → Machine → Option (List ℕ) → List E
pages_read shown ask zero m page = []
pages_read shown ask (suc pages) m page =
    let s = ask m page in
    (shown s.1).0 ++ unwrap_or (option_map (λ token. pages_read shown ask pages s.0 (Some token)) (shown s.1).1) []

-- a page that is asked for after some other calls
pub record Ask : Type 0 where
  pub others : List Timed
  pub reading : Moment

-- the answers to pages of a snapshot's list that are asked for in the same way, with other calls between them
abbrev pub pages_between : ℕ → SnapKey → ℕ → ℕ → List Ask → Machine → Option (List ℕ) → List Answer
pages_between account key most start [] m page = []
pages_between account key most start (a ∷ asks) m page =
    let s = step (after_all m a.others) account a.reading (ListSnapshotBlocks key page most start) in
    s.1 ∷ unwrap_or (option_map (λ token. pages_between account key most start asks s.0 (Some token)) (block_page s.1).1) []

abbrev pub listed_indexes : List Answer → List ℕ
listed_indexes answers = flat_map (λ answer. map (λ e. e.index) (block_page answer).0) answers

abbrev pub IsBlockPage : Answer → Type 0
IsBlockPage answer = (entries : List BlockEntry) × (expiry : Moment) × (next : Option (List ℕ)) × (size : ℕ) × (answer ≡ BlockList entries expiry next size)

-- what a block becomes by a list of changes: at an index with an entry what the entry's second is, elsewhere what it was
abbrev pub patched : List (Pair WholeBlock) → ℕ → Option WholeBlock → Option WholeBlock
patched [] index was = was
patched (p ∷ ps) index was = cond (p.index == index) p.second (patched ps index was)
