-- What a change takes: the room for it in the tables, its client token, what becomes of its account's rules, and the rows that a run
-- makes.
use Rattle.std.specs.Prelude.{◌≡◌, ℕ, true, List, [], ◌∷◌}
use Rattle.std.specs.Ordering.{nat_cmp}
use Rattle.std.specs.FinMap as map
use Rattle.std.specs.declared.option.Option.{Option}
use Rattle.std.specs.declared.option.Option.TheVariants.{None, Some}
use Rattle.std.specs.declared.result.Result.TheVariants.{Ok, Err}
use Rattle.ebs_tables.specs.Full.{full}
use Rattle.ebs_model.specs.declared.request.Request.{Request}
use Rattle.ebs_model.specs.declared.request.Request.TheVariants.{CreateRule, UpdateRule, DeleteRule, LockRule, UnlockRule, CreatePolicy, RunPolicy}
use Rattle.ebs_model.specs.declared.keys.PolicyKey.{PolicyKey}
use Rattle.ebs_model.specs.declared.keys.AnyKey.{AnyKey}
use Rattle.ebs_model.specs.declared.keys.AnyKey.TheVariants as any
use Rattle.ebs_model.specs.declared.change.Change.{Change}
use Rattle.ebs_model.specs.declared.rules.RuleChange.{RuleChange}
use Rattle.ebs_model.specs.declared.rules.RuleCommand.TheVariants.{Create, Update, Delete, Lock, Unlock}
use Rattle.ebs_model.specs.declared.rules.RuleRefusal.TheVariants.{NotFound}
use Rattle.ebs_model.specs.Rules.{Book}
use Rattle.ebs_model.specs.RuleCommands.{Decided, decide}
use Rattle.ebs_model.specs.Rows.{book_of}
use Rattle.ebs_model.specs.Decisions.{made_snap, made_vol}
use Rattle.ebs_bin.specs.Books.{Shelf, book, HasRoom, IsNumberFree}
use Rattle.ebs_catalog.specs.declared.rooms.Room.{Room}
use Rattle.ebs_catalog.specs.declared.rooms.RuleRoom.{RuleRoom}
use Rattle.ebs_catalog.specs.Held.{Held, rows_in, Covers, CoversSnap, FreeBy, FreeSnap, FreeToken, new_token}
use Rattle.ebs_catalog.specs.PolicyCalls.{made_policy, rows_of_run}

-- what a command on rules makes of the account's; no other request is one
abbrev pub ruled : ℕ → Book → ℕ → Request → Decided
ruled account b now (CreateRule days tags description delay) = decide account b (Create days tags description delay) now
ruled account b now (UpdateRule key days tags description) = decide account b (Update key days tags description) now
ruled account b now (DeleteRule key) = decide account b (Delete key) now
ruled account b now (LockRule key delay) = decide account b (Lock key delay) now
ruled account b now (UnlockRule key) = decide account b (Unlock key) now
ruled account b now request = Err NotFound

abbrev pub ruled_in : Held → ℕ → ℕ → Request → Decided
ruled_in h account now request = ruled account (book_of (rows_in h) account) now request

-- an account's rules, or the ones that were made for an account without any
abbrev pub kept_or : Option Shelf → Option Shelf → Option Shelf
kept_or None fresh = fresh
kept_or (Some kept) fresh = Some kept

-- the rules that the change is made of, with room for it
pub record HasShelf (h : Held) (account : ℕ) (r : RuleRoom) : Type 0 where
  pub shelf : Shelf
  pub is : kept_or (map.get (full h.books) account) r.fresh ≡ Some shelf
  pub owner : shelf.account ≡ account
  pub rules : book shelf ≡ book_of (rows_in h) account
  pub room : HasRoom shelf r.change
  pub key : map.contains_key h.books account ≡ true

-- room for what was decided of a command on rules, and none for what is no accepted one
abbrev pub HasRuleRoom : Held → ℕ → Decided → Option RuleRoom → Type 0
HasRuleRoom h account (Ok change) None = ⊥
HasRuleRoom h account (Ok change) (Some room) = (room.change ≡ change) × HasShelf h account room
HasRuleRoom h account (Err refusal) rules = rules ≡ None

-- room for a new policy
abbrev pub CoversPolicy : Held → Option PolicyKey → Type 0
CoversPolicy h None = Unit {0}
CoversPolicy h (Some key) = (map.contains_key h.policies key ≡ true) × (map.contains_key h.owns key.account ≡ true)

abbrev pub CoversTable : Held → Option PolicyKey → Request → Type 0
CoversTable h made (CreatePolicy targets hours at retain add) = CoversPolicy h made
CoversTable h made request = Unit {0}

-- room for each snapshot that is made
abbrev pub CoversOne : Held → AnyKey → Type 0
CoversOne h (any.Snap key) = CoversSnap h (Some key)
CoversOne h id = Unit {0}

abbrev pub CoversMade : Held → List AnyKey → Type 0
CoversMade h [] = Unit {0}
CoversMade h (id ∷ ids) = CoversOne h id × CoversMade h ids

-- room for each that goes to the bin
abbrev pub CoversWait : Held → AnyKey → Type 0
CoversWait h (any.Snap key) = map.contains_key h.waits key ≡ true
CoversWait h id = Unit {0}

abbrev pub CoversEnded : Held → List AnyKey → Type 0
CoversEnded h [] = Unit {0}
CoversEnded h (id ∷ ids) = CoversWait h id × CoversEnded h ids

-- room for a change of policies, or for a run
abbrev pub CoversPolicies : Held → List AnyKey → List AnyKey → Request → Type 0
CoversPolicies h made ended (CreatePolicy targets hours at retain add) = CoversPolicy h (made_policy made)
CoversPolicies h made ended (RunPolicy key) = CoversMade h made × CoversEnded h ended
CoversPolicies h made ended request = Unit {0}

-- this is the room of the change, and it is there
pub record IsReady (h : Held) (change : Change) (room : Room) : Type 0 where
  pub covers : Covers h change
  pub token : room.token ≡ new_token change
  pub rules : HasRuleRoom h change.account (ruled_in h change.account change.at.second change.request) room.rules
  pub policies : CoversPolicies h change.made change.ended change.request
  pub run : room.run ≡ rows_of_run (rows_in h) change.at change.made change.sources change.request

abbrev pub IsShelfFree : Option Shelf → RuleChange → Type 0
IsShelfFree None change = Unit {0}
IsShelfFree (Some s) change = IsNumberFree s change

abbrev pub IsRuleFree : map.FinMap nat_cmp (Option Shelf) → ℕ → Option RuleRoom → Type 0
IsRuleFree books account None = Unit {0}
IsRuleFree books account (Some room) = (map.contains_key books account ≡ map.contains_key (full books) account) × IsShelfFree (map.get (full books) account) room.change

abbrev pub FreePolicy : Held → Option PolicyKey → Type 0
FreePolicy h None = Unit {0}
FreePolicy h (Some key) = (map.contains_key h.policies key ≡ map.contains_key (full h.policies) key) × (map.contains_key h.owns key.account ≡ map.contains_key (full h.owns) key.account)

abbrev pub FreeOne : Held → AnyKey → Type 0
FreeOne h (any.Snap key) = FreeSnap h (Some key)
FreeOne h id = Unit {0}

abbrev pub FreeMade : Held → List AnyKey → Type 0
FreeMade h [] = Unit {0}
FreeMade h (id ∷ ids) = FreeOne h id × FreeMade h ids

abbrev pub FreeWait : Held → AnyKey → Type 0
FreeWait h (any.Snap key) = map.contains_key h.waits key ≡ map.contains_key (full h.waits) key
FreeWait h id = Unit {0}

abbrev pub FreeEnded : Held → List AnyKey → Type 0
FreeEnded h [] = Unit {0}
FreeEnded h (id ∷ ids) = FreeWait h id × FreeEnded h ids

abbrev pub FreePolicies : Held → List AnyKey → List AnyKey → Request → Type 0
FreePolicies h made ended (CreatePolicy targets hours at retain add) = FreePolicy h (made_policy made)
FreePolicies h made ended (RunPolicy key) = FreeMade h made × FreeEnded h ended
FreePolicies h made ended request = Unit {0}

-- nothing of the change's room is only ready
pub record IsFree (h : Held) (change : Change) (room : Room) : Type 0 where
  pub rows : FreeBy h (made_snap change.made) (made_vol change.made) change.request
  pub token : FreeToken h.tokens room.token
  pub rules : IsRuleFree h.books change.account room.rules
  pub policies : FreePolicies h change.made change.ended change.request
