-- What a pass knows before and after each call.
use Rattle.std.specs.Prelude.{◌≡◌, ◌≢◌, ℕ, ◌+◌, ◌^◌, ◌<◌, ◌≤◌, List, [], ◌∷◌, ◌++◌, Bool, false, Some, MatchBool}
use mathlib.Core.List.{IsPrefix}
use Rattle.atomic_table.specs.Table.{Me}
use Rattle.atomic_table.specs.Seated.{TableId}
use Rattle.atomic_table.specs.declared.shared.Shared.{Shared}
use Rattle.atomic_table.specs.declared.shared.Seat.{Seat}
use Rattle.ebs_turns.specs.declared.line.Deed.{Deed}
use Rattle.ebs_turns.specs.declared.line.Turn.{Turn}
use Rattle.ebs_turns.specs.declared.seats.Opening.{Opening}
use Rattle.ebs_turns.specs.declared.seats.Place.{Place}
use Rattle.ebs_turns.specs.declared.seats.Place.TheVariants.{Out}
use Rattle.ebs_turns.specs.declared.seats.Rule.{Rule}
use Rattle.ebs_turns.specs.declared.seats.View.{View}
use Rattle.ebs_turns.specs.Line.{turns_of, is_out, IsDeed}
use Rattle.ebs_turns.specs.Rule.{first_seat}
use Rattle.ebs_turns.specs.Tells.{after_look, after_refusal, with_ticket, with_turn, behind, turn_by, Stands, SeesLine, longer}

abbrev pub IsSized : TableId → Type 0
IsSized z = (z.words ≡ 3) × (z.slots ≡ 1)

module _ {T I : Type 0} where
  -- the seat is of this table, which is for so many passes, whatever it has seen
  pub record IsAt (table : Shared (Place T I) (View T I) (Opening T) (Rule T I)) (passes : ℕ) (seat : Seat (Place T I) (View T I)) : Type 0 where
    pub table_is : seat.table_id ≡ table.table_id
    pub about : seat.me.0.about ≡ Some table.key
    pub sized : IsSized table.table_id
    pub many : passes ≡ table.key.passes

  -- the first pass of turns at this value, for so many passes
  pub record IsFirst (value : T) (passes : ℕ) (table : Shared (Place T I) (View T I) (Opening T) (Rule T I)) (seat : Seat (Place T I) (View T I)) : Type 0 where
    pub first : table.key.first.value ≡ value
    pub at : IsAt table passes seat
    pub view : seat.me ≡ (first_seat table.key, [])

  -- fewer than 2^42 tickets were taken, and the pass may take two; or no fewer
  abbrev pub Looked : Bool → Me (Place T I) (View T I) → Me (Place T I) (View T I) → Type 0
  Looked may m m' = (found : ℕ) × (m'.1 ≡ m.1) × MatchBool may ((found < 2 ^ 42) × (m'.0 ≡ after_look found m.0)) ((2 ^ 42 ≤ found) × (m'.0 ≡ after_refusal found m.0))

  -- the pass has no ticket and may take one
  abbrev pub IsFree : Me (Place T I) (View T I) → Type 0
  IsFree m = (m.1 ≡ []) × (m.0.stage ≡ 0) × (1 ≤ m.0.may)

  -- the pass has the turn and has seen the line, which made this value of the first
  pub record Began (follows : T → List (Turn I) → T → Type 0) (v : View T I) (m : Me (Place T I) (View T I)) (value : T) : Type 0 where
    pub ticket : ℕ
    pub line : List (Turn I)
    pub view : m.0 ≡ with_turn line (with_ticket ticket v)
    pub out : m.1 ≡ (0, Out) ∷ []
    pub stands : Stands follows v.about line value
    pub sees : SeesLine v ticket line

  -- the turn may leave this: with it the line makes the value of the first
  pub record MayEnd (follows : T → List (Turn I) → T → Type 0) (m : Me (Place T I) (View T I)) (value : T) (item : I) (deed : Deed) : Type 0 where
    pub stage : m.0.stage ≡ 2
    pub out : m.1 ≡ (0, Out) ∷ []
    pub stands : Stands follows m.0.about (m.0.seen ++ turn_by m.0.number (record { item = item; deed = deed }) ∷ []) value
    pub done : IsDeed m.0.seen m.0.lease deed

  -- the line that the pass has seen ends with its turn
  abbrev pub Ended : Me (Place T I) (View T I) → I → Deed → Me (Place T I) (View T I) → Type 0
  Ended m item deed m' = m' ≡ (behind (record { item = item; deed = deed }) m.0, [])

  -- what no call changes
  pub record IsSame (v w : View T I) : Type 0 where
    pub about : w.about ≡ v.about
    pub number : w.number ≡ v.number
    pub tally : w.tally ≡ v.tally

  -- between two calls
  pub record IsResting (m : Me (Place T I) (View T I)) : Type 0 where
    pub hand : m.1 ≡ []
    pub stage : m.0.stage ≡ 0
    pub tally : 1 ≤ m.0.tally
    pub held : m.0.held ≡ 0
    pub refused : m.0.refused ≡ 0
    pub lease : m.0.lease ≡ 0

  -- the new pass has seen what the old one has, and has a number that no turn of the line has
  pub record IsSplit (v w : View T I) : Type 0 where
    pub about : w.about ≡ v.about
    pub seen : w.seen ≡ v.seen
    pub tally : w.tally ≡ 1
    pub other : w.number ≢ v.number
    pub none : turns_of w.number w.seen ≡ []

  -- what the kept pass is after a meeting
  pub record IsMet (v u w : View T I) : Type 0 where
    pub about : w.about ≡ v.about
    pub number : w.number ≡ v.number
    pub tally : w.tally ≡ v.tally + u.tally
    pub seen : w.seen ≡ longer v.seen u.seen
    pub first : IsPrefix v.seen w.seen
    pub second : IsPrefix u.seen w.seen

  -- the value that the line leaves, by which no lease is out
  pub record Leaves (follows : T → List (Turn I) → T → Type 0) (v : View T I) (value : T) : Type 0 where
    pub stands : Stands follows v.about v.seen value
    pub none_out : (l : ℕ) → is_out l v.seen ≡ false
