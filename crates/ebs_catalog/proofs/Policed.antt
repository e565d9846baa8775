-- Changes of policies as they are kept, and of rows at the moment.
use Rattle.std.proofs.Common.{◌≡◌, ℕ, Bool, true, false, not, ◌&&◌, ◌||◌, List, Option, Some, None, refl, sym, ap, subst, ◌∙◌}
use Rattle.std.proofs.lemmas.Bool.{false≢true}
use Rattle.std.specs.List.{filter}
use Rattle.ebs_model.specs.declared.keys.SnapKey.{SnapKey}
use Rattle.ebs_model.specs.declared.keys.VolKey.{VolKey}
use Rattle.ebs_model.specs.declared.keys.PolicyKey.{PolicyKey}
use Rattle.ebs_model.specs.declared.keys.AnyKey.{AnyKey}
use Rattle.ebs_model.specs.declared.change.Change.{Change}
use Rattle.ebs_model.specs.declared.request.Request.{Request}
use Rattle.ebs_model.specs.declared.request.Request.TheVariants.{CreateRule, UpdateRule, DeleteRule, LockRule, UnlockRule, CreatePolicy, DeletePolicy, RunPolicy}
use Rattle.ebs_model.specs.Decisions.{made_snap}
use Rattle.ebs_model.specs.declared.keys.Moment.{Moment}
use Rattle.ebs_model.specs.Decide.{commit_by}
use Rattle.ebs_model.specs.Rows.{Rows}
use Rattle.ebs_model.specs.inner.Rows.{aged}
use Rattle.ebs_catalog.specs.Held.{Held, is_about_by, is_about, CoversBy, FreeBy}
use Rattle.ebs_catalog.specs.Rooms.{CoversTable, CoversPolicies, FreePolicies}
use Rattle.ebs_catalog.specs.Commands.{is_command}
use Rattle.ebs_catalog.specs.Decided.{PassedTable, PassedPolicies}
use Rattle.ebs_catalog.specs.PolicyCalls.{is_policy_change, is_run, is_among, made_policy}
use Rattle.ebs_catalog.proofs.Commits.{filter-all}

not-run : (request : Request) → is_policy_change request ≡ false → is_run request ≡ false
not-run (RunPolicy key) e = absurd (false≢true (sym e))
not-run request e = refl

-- a command on rules changes no policies
pub no-policies : (request : Request) → is_command request ≡ true → is_policy_change request ≡ false
no-policies (CreateRule days tags description delay) e = refl
no-policies (UpdateRule key days tags description) e = refl
no-policies (DeleteRule key) e = refl
no-policies (LockRule key delay) e = refl
no-policies (UnlockRule key) e = refl
no-policies request e = absurd (false≢true e)

-- what another change is about
pub about-others : (change : Change) → is_policy_change change.request ≡ false → (xs : List SnapKey)
    → filter (λ q. not (is_about_by (made_snap change.made) change.request q)) xs ≡ filter (λ q. not (is_about change q)) xs
about-others change e xs =
    ap (λ b. filter (λ q. not ((b && (is_among q change.made || is_among q change.ended)) || is_about_by (made_snap change.made) change.request q)) xs)
    (sym (not-run change.request e))

-- a creation or a deletion is about no snapshot
pub about-table : (made : Option SnapKey) (ids ended : List AnyKey) (request : Request) → is_policy_change request ≡ true → is_run request ≡ false → (xs : List SnapKey)
    → filter (λ q. not ((is_run request && (is_among q ids || is_among q ended)) || is_about_by made request q)) xs ≡ xs
about-table made ids ended (CreatePolicy targets hours time retain add) e f xs = filter-all xs
about-table made ids ended (DeletePolicy key) e f xs = filter-all xs
about-table made ids ended (RunPolicy key) e f xs = absurd (false≢true (sym f))
about-table made ids ended request e f xs = absurd (false≢true e)

-- it takes no other room
pub covers-policies : (h : Held) (made : Option SnapKey) (volume : Option VolKey) (request : Request) → is_policy_change request ≡ true → CoversBy h made volume request
covers-policies h made volume (CreatePolicy targets hours time retain add) e = (tt, tt)
covers-policies h made volume (DeletePolicy key) e = (tt, tt)
covers-policies h made volume (RunPolicy key) e = (tt, tt)
covers-policies h made volume request e = absurd (false≢true e)

pub covers-none : (h : Held) (made ended : List AnyKey) (request : Request) → is_policy_change request ≡ false → CoversPolicies h made ended request
covers-none h made ended (CreatePolicy targets hours time retain add) e = absurd (false≢true (sym e))
covers-none h made ended (RunPolicy key) e = absurd (false≢true (sym e))
covers-none h made ended request e = tt

pub free-policies : (h : Held) (made : Option SnapKey) (volume : Option VolKey) (request : Request) → is_policy_change request ≡ true → FreeBy h made volume request
free-policies h made volume (CreatePolicy targets hours time retain add) e = tt
free-policies h made volume (DeletePolicy key) e = tt
free-policies h made volume (RunPolicy key) e = tt
free-policies h made volume request e = absurd (false≢true e)

pub free-none : (h : Held) (made ended : List AnyKey) (request : Request) → is_policy_change request ≡ false → FreePolicies h made ended request
free-none h made ended (CreatePolicy targets hours time retain add) e = absurd (false≢true (sym e))
free-none h made ended (RunPolicy key) e = absurd (false≢true (sym e))
free-none h made ended request e = tt

-- the room and the tests of a creation or a deletion
pub covers-table : (h : Held) (made ended : List AnyKey) (request : Request) → is_run request ≡ false → CoversPolicies h made ended request → CoversTable h (made_policy made) request
covers-table h made ended (CreatePolicy targets hours time retain add) e r = r
covers-table h made ended request e r = tt

pub passed-before : (now : ℕ) (rows : Rows) (account : ℕ) (made : Option PolicyKey) (request : Request) → PassedTable (aged now rows) account made request → PassedTable rows account made request
passed-before now rows account made (CreatePolicy targets hours time retain add) p = record { next = p.next; schedule = p.schedule; retain = p.retain }
passed-before now rows account made request p = tt

-- time leaves the same before and after it
pub table-aged : (now : ℕ) (rows : Rows) (at : Moment) (account : ℕ) (made : Option SnapKey) (volume : Option VolKey) (request : Request) → is_policy_change request ≡ true → is_run request ≡ false
    → aged now (commit_by rows at account made volume request) ≡ commit_by (aged now rows) at account made volume request
table-aged now rows at account made volume (CreatePolicy targets hours time retain add) e f = refl
table-aged now rows at account made volume (DeletePolicy key) e f = refl
table-aged now rows at account made volume (RunPolicy key) e f = absurd (false≢true (sym f))
table-aged now rows at account made volume request e f = absurd (false≢true e)

pub passed-table : (rows : Rows) (change : Change) (request : Request) → PassedPolicies rows change request → PassedTable rows change.account (made_policy change.made) request
passed-table rows change (CreatePolicy targets hours time retain add) p = p
passed-table rows change request p = tt
