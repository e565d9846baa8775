-- ListSnapshotBlocks and ListChangedBlocks: pages of block lists with their tokens (EBS direct APIs reference).
use Rattle.std.specs.Prelude.{ℕ, true, Result, Ok, Bool, false, not, ◌==◌, ◌&&◌, ◌+◌, List, Option, None, Some, map}
use Rattle.std.specs.Option.{option_map}
use Rattle.ebs_model.specs.declared.keys.SnapKey.{SnapKey}
use Rattle.ebs_model.specs.declared.keys.Moment.{Moment}
use Rattle.ebs_model.specs.declared.rows.Line.{Line}
use Rattle.ebs_model.specs.declared.change.Decision.{Decision}
use Rattle.ebs_model.specs.declared.change.Decision.TheVariants as decision
use Rattle.ebs_model.specs.declared.entries.BlockEntry.{BlockEntry}
use Rattle.ebs_model.specs.declared.entries.ChangedToken.{ChangedToken}
use Rattle.ebs_model.specs.declared.answer.Answer.{Answer}
use Rattle.ebs_model.specs.declared.answer.Answer.TheVariants.{BlockList, ChangedList}
use Rattle.ebs_model.specs.declared.answer.Refusal.{Refusal}
use Rattle.ebs_model.specs.declared.answer.Refusal.TheVariants.{BadPageToken, Unrelated}
use Rattle.ebs_model.specs.Refuse.{◌>>=◌, ◌>>◌, some_or, refuse_if}
use Rattle.ebs_model.specs.Arrays.{WholeBlock, WholeArray}
use Rattle.ebs_model.specs.Tokens.{page_start, page_text, block_text}
use Rattle.ebs_model.specs.Lists.{from_index, page_of, next_of, Pair, changed_from}
use Rattle.ebs_model.specs.Access.{ready}
use Rattle.ebs_model.specs.Rows.{Rows, the_row}

abbrev pub decide_list : Rows → Moment → ℕ → SnapKey → Result Decision Refusal
decide_list rows at account key = do
  row ← the_row rows key (ready account key at.second)
  Ok (decision.Read (record { size = row.size; related = true }))

abbrev pub are_alike : Bool → Bool → Bool
are_alike true b = b
are_alike false b = not b

-- images of one line began from one image
abbrev pub is_same_line : Line → Line → Bool
is_same_line a b = are_alike a.of_volume b.of_volume && ((a.account == b.account) && (a.number == b.number))

abbrev pub decide_compare : Rows → Moment → ℕ → SnapKey → SnapKey → Result Decision Refusal
decide_compare rows at account first second = do
  a ← the_row rows first (ready account first at.second)
  b ← the_row rows second (ready account second at.second)
  Ok (decision.Read (record { size = b.size; related = is_same_line a.line b.line }))

-- how long a block's token and a page's token are good, in seconds
abbrev pub block_life : ℕ
block_life = 604800

abbrev pub page_life : ℕ
page_life = 3600

abbrev pub after : ℕ → ℕ → Moment
after now life = record { second = now + life }

-- where a page begins: as its token says, or at the given index without one
abbrev pub begins : List ℕ → Bool → SnapKey → SnapKey → ℕ → Option (List ℕ) → ℕ → Result ℕ Refusal
begins secret changed first second now None start = Ok start
begins secret changed first second now (Some token) start = some_or (page_start secret changed first second now token) BadPageToken

-- the token of the page that follows, where one does
abbrev pub next_page : List ℕ → Bool → SnapKey → SnapKey → ℕ → Option ℕ → Option (List ℕ)
next_page secret changed first second now next = option_map (λ index. page_text secret changed first second index (now + page_life)) next

abbrev pub entry : List ℕ → SnapKey → ℕ → ℕ × WholeBlock → BlockEntry
entry secret key now e = record { index = e.0; token = block_text secret key e.0 (now + block_life) }

-- the page of a snapshot's blocks that begins at an index
abbrev pub block_list : List ℕ → SnapKey → ℕ → ℕ → WholeArray → ℕ → ℕ → Answer
block_list secret key now size array most index = BlockList
    (map (entry secret key now) (page_of most (from_index array index)))
    (after now block_life)
    (next_page secret false key key now (next_of (λ e. e.0) most (from_index array index)))
    size

abbrev pub read_list : List ℕ → SnapKey → ℕ → ℕ → WholeArray → Option (List ℕ) → ℕ → ℕ → Result Answer Refusal
read_list secret key now size array page most start = do
  index ← begins secret false key key now page start
  Ok (block_list secret key now size array most index)

abbrev pub token_of : List ℕ → SnapKey → ℕ → ℕ → Option WholeBlock → Option (List ℕ)
token_of secret key now index block = option_map (λ b. block_text secret key index (now + block_life)) block

abbrev pub changed_entry : List ℕ → SnapKey → SnapKey → ℕ → Pair WholeBlock → ChangedToken
changed_entry secret first second now p = record {
  index = p.index;
  first = token_of secret first now p.index p.first;
  second = token_of secret second now p.index p.second;
}

-- where two arrays differ, at an index or above it
abbrev pub differences : WholeArray → WholeArray → ℕ → List (Pair WholeBlock)
differences first second index = changed_from (λ b. b.stamp) first second index

-- the page of what differs between two snapshots that begins at an index; the size is the second's
abbrev pub change_list : List ℕ → SnapKey → SnapKey → ℕ → ℕ → WholeArray → WholeArray → ℕ → ℕ → Answer
change_list secret first second now size a b most index = ChangedList
    (map (changed_entry secret first second now) (page_of most (differences a b index)))
    (after now block_life)
    (next_page secret true first second now (next_of (λ p. p.index) most (differences a b index)))
    size

abbrev pub read_changes : List ℕ → SnapKey → SnapKey → ℕ → ℕ → Bool → WholeArray → WholeArray → Option (List ℕ) → ℕ → ℕ → Result Answer Refusal
read_changes secret first second now size related a b page most start = do
  index ← begins secret true first second now page start
  refuse_if (not related) Unrelated
  Ok (change_list secret first second now size a b most index)
