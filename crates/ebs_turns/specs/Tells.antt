-- What each kind of step tells.
use Rattle.std.specs.Prelude.{◌≡◌, ◌≢◌, ℕ, ◌+◌, ◌-◌, ◌^◌, ◌<◌, ◌≤◌, List, [], ◌∷◌, ◌++◌, length, cond, nat_lt, true, Option, Some, None}
use mathlib.Core.List.{IsPrefix}
use Rattle.atomic_table.specs.Table.{Me, Step}
use Rattle.ebs_turns.specs.declared.line.Left.{Left}
use Rattle.ebs_turns.specs.declared.line.Turn.{Turn}
use Rattle.ebs_turns.specs.declared.seats.Opening.{Opening}
use Rattle.ebs_turns.specs.declared.seats.Place.{Place}
use Rattle.ebs_turns.specs.declared.seats.Place.TheVariants.{Home}
use Rattle.ebs_turns.specs.declared.seats.View.{View}
use Rattle.ebs_turns.specs.Line.{turns_of, turns_on, is_out, lease_after}

module _ {I : Type 0} where
  -- the turn of this pass that leaves this
  abbrev pub turn_by : ℕ → Left I → Turn I
  turn_by by left = record { by = by; item = left.item; deed = left.deed }

  abbrev pub longer : List (Turn I) → List (Turn I) → List (Turn I)
  longer xs ys = cond (nat_lt (length xs) (length ys)) ys xs

  abbrev pub shorter : List (Turn I) → List (Turn I) → List (Turn I)
  shorter xs ys = cond (nat_lt (length xs) (length ys)) xs ys

module _ {T I : Type 0} where
  abbrev pub after_look : ℕ → View T I → View T I
  after_look found v = record v { may = 2; ticket_word = found }

  abbrev pub after_refusal : ℕ → View T I → View T I
  after_refusal found v = record v { ticket_word = found }

  abbrev pub with_ticket : ℕ → View T I → View T I
  with_ticket found v = record v { may = v.may - 1; stage = 1; ticket = found }

  abbrev pub with_turn : List (Turn I) → View T I → View T I
  with_turn line v = record v { stage = 2; seen = line }

  -- the view once the turn has ended
  abbrev pub behind : Left I → View T I → View T I
  behind left v = record v { stage = 0; seen = v.seen ++ turn_by v.number left ∷ []; lease = lease_after v.lease left.deed }

  abbrev pub with_number : ℕ → View T I → View T I
  with_number found v = record v { held = 1; next = found; alone = 0; passes_word = found }

  abbrev pub with_refusal : ℕ → View T I → View T I
  with_refusal found v = record v { refused = 1; alone = 0; passes_word = found }

  abbrev pub undone : View T I → View T I
  undone v = record v { refused = 0 }

  -- the two seats that a split makes of one that holds a number
  abbrev pub split_left : View T I → View T I
  split_left v = record v { held = 0 }

  abbrev pub split_right : View T I → View T I
  split_right v = record {
    about = v.about;
    number = v.next;
    tally = 1;
    seen = v.seen;
    may = 0;
    stage = 0;
    ticket = 0;
    lease = 0;
    held = 0;
    next = 0;
    refused = 0;
    alone = 0;
    met = [];
    ticket_word = 0;
    passes_word = v.passes_word;
  }

  -- the seat that two seats become, and what the second is left with
  abbrev pub joined : View T I → View T I → View T I
  joined v w = record v { seen = longer v.seen w.seen; met = shorter v.seen w.seen; tally = v.tally + w.tally; alone = 0 }

  abbrev pub spent : View T I
  spent = record { about = None; number = 0; tally = 0; seen = []; may = 0; stage = 0; ticket = 0; lease = 0; held = 0; next = 0; refused = 0; alone = 0; met = []; ticket_word = 0; passes_word = 0 }

  abbrev pub found_alone : ℕ → View T I → View T I
  found_alone found v = record v { alone = 1; passes_word = found }

  abbrev pub found_others : ℕ → View T I → View T I
  found_others found v = record v { passes_word = found }

  -- the value follows from the first, as the seat knows it
  abbrev pub Stands : (T → List (Turn I) → T → Type 0) → Option (Opening T) → List (Turn I) → T → Type 0
  Stands follows about line value = (opening : Opening T) → about ≡ Some opening → follows opening.first.value line value

  -- the line as the seat with the turn sees it
  pub record SeesLine (v : View T I) (found : ℕ) (line : List (Turn I)) : Type 0 where
    pub begins : IsPrefix v.seen line
    pub own : turns_of v.number line ≡ turns_of v.number v.seen
    pub long : length line ≡ found
    pub short : found < 2 ^ 43
    pub leased : (l : ℕ) → v.lease ≡ l + 1 → is_out l line ≡ true
    pub dealt : (l : ℕ) → v.lease ≡ l + 1 → turns_on l line ≡ turns_on l v.seen

  -- what the value in hand was left with
  abbrev pub with_left : View T I → List (ℕ × Place T I) → View T I
  with_left v ((k, Home value (Some left)) ∷ rest) = behind left v
  with_left v hand = v

  abbrev pub looked : Step (Place T I) → Me (Place T I) (View T I) → ℕ → Me (Place T I) (View T I) → Type 0
  looked st m found m' = (m'.1 ≡ m.1) × (found < 2 ^ 42 → m'.0 ≡ after_look found m.0) × (2 ^ 42 ≤ found → m'.0 ≡ after_refusal found m.0)

  abbrev pub queued : Step (Place T I) → Me (Place T I) (View T I) → ℕ → Me (Place T I) (View T I) → Type 0
  queued st m found m' = (m'.1 ≡ m.1) × (m'.0 ≡ with_ticket found m.0)

  pub record HasTurn (follows : T → List (Turn I) → T → Type 0) (m : Me (Place T I) (View T I)) (found : ℕ) (m' : Me (Place T I) (View T I)) : Type 0 where
    pub line : List (Turn I)
    pub value : T
    pub left : Option (Left I)
    pub view : m'.0 ≡ with_turn line m.0
    pub hand : m'.1 ≡ (0, Home value left) ∷ m.1
    pub stands : Stands follows m.0.about line value
    pub sees : SeesLine m.0 found line

  abbrev pub turned : (T → List (Turn I) → T → Type 0) → Step (Place T I) → Me (Place T I) (View T I) → ℕ → Me (Place T I) (View T I) → Type 0
  turned follows st m found m' = (found ≡ m.0.ticket → HasTurn follows m found m') × (found ≢ m.0.ticket → m' ≡ m)

  abbrev pub ended : Step (Place T I) → Me (Place T I) (View T I) → ℕ → Me (Place T I) (View T I) → Type 0
  ended st m found m' = (m'.1 ≡ []) × (m'.0 ≡ with_left m.0 m.1)

  abbrev pub counted : Step (Place T I) → Me (Place T I) (View T I) → ℕ → Me (Place T I) (View T I) → Type 0
  counted st m found m' = (m'.1 ≡ m.1) × ((about : Opening T) → m.0.about ≡ Some about
      → (found < about.passes → (m'.0 ≡ with_number found m.0) × (m.0.number ≢ found) × (turns_of found m.0.seen ≡ [])) × (about.passes ≤ found → m'.0 ≡ with_refusal found m.0))

  abbrev pub uncounted : Step (Place T I) → Me (Place T I) (View T I) → ℕ → Me (Place T I) (View T I) → Type 0
  uncounted st m found m' = (m'.1 ≡ m.1) × (m'.0 ≡ undone m.0)

  -- after a join: the line of the two that was shorter begins the other
  abbrev pub told : Step (Place T I) → Me (Place T I) (View T I) → ℕ → Me (Place T I) (View T I) → Type 0
  told st m found m' = (m' ≡ m) × IsPrefix m.0.met m.0.seen × ((about : Opening T) → m.0.about ≡ Some about → (m.0.tally ≤ about.passes) × (about.passes < 2 ^ 32))

  abbrev pub viewed : Step (Place T I) → Me (Place T I) (View T I) → ℕ → Me (Place T I) (View T I) → Type 0
  viewed st m found m' = (m'.1 ≡ m.1) × (found ≤ m.0.tally → m'.0 ≡ found_alone found m.0) × (m.0.tally < found → m'.0 ≡ found_others found m.0)
