-- Changes of rules as they are kept, and of rows at the moment.
use Rattle.std.proofs.Common.{◌≡◌, ℕ, true, not, List, Option, Some, None, Ok, Err, refl, sym, ap, subst}
use Rattle.std.proofs.lemmas.Bool.{false≢true}
use Rattle.std.specs.List.{filter}
use Rattle.std.specs.FinMap as map
use Rattle.ebs_model.specs.declared.keys.SnapKey.{SnapKey}
use Rattle.ebs_model.specs.declared.keys.VolKey.{VolKey}
use Rattle.ebs_model.specs.declared.keys.Moment.{Moment}
use Rattle.ebs_model.specs.declared.request.Request.{Request}
use Rattle.ebs_model.specs.declared.request.Request.TheVariants.{CreateRule, UpdateRule, DeleteRule, LockRule, UnlockRule}
use Rattle.ebs_model.specs.declared.rules.RuleCommand.TheVariants as rule
use Rattle.ebs_model.specs.Rules.{Book}
use Rattle.ebs_model.specs.inner.Rules.{HasDays, KeepsDays}
use Rattle.ebs_model.specs.RuleCommands.{Decided, committed, committed_by}
use Rattle.ebs_model.specs.Rows.{Rows, book_of}
use Rattle.ebs_model.specs.Decide.{commit_by}
use Rattle.ebs_model.proofs.RuleLaws.{command-lasts, book-lasts}
use Rattle.ebs_bin.specs.Agrees.{IsTaken}
use Rattle.ebs_catalog.specs.Held.{Held, IsFit, is_about_by, CoversBy}
use Rattle.ebs_catalog.specs.declared.rooms.RuleRoom.{RuleRoom}
use Rattle.ebs_catalog.specs.Rooms.{ruled, HasShelf, HasRuleRoom}
use Rattle.ebs_catalog.specs.Commands.{is_command}
use Rattle.ebs_catalog.specs.Decided.{Passed, IsRuled}
use Rattle.ebs_catalog.proofs.Commits.{filter-all}

-- a command takes no other room
pub covers-command : (h : Held) (made : Option SnapKey) (volume : Option VolKey) (request : Request) → is_command request ≡ true → CoversBy h made volume request
covers-command h made volume (CreateRule days tags description delay) e = (tt, tt)
covers-command h made volume (UpdateRule key days tags description) e = (tt, tt)
covers-command h made volume (DeleteRule key) e = (tt, tt)
covers-command h made volume (LockRule key delay) e = (tt, tt)
covers-command h made volume (UnlockRule key) e = (tt, tt)
covers-command h made volume request e = absurd (false≢true e)

-- it is about no snapshot
pub about-rules : (made : Option SnapKey) (request : Request) → is_command request ≡ true → (xs : List SnapKey) → filter (λ q. not (is_about_by made request q)) xs ≡ xs
about-rules made (CreateRule days tags description delay) e xs = filter-all xs
about-rules made (UpdateRule key days tags description) e xs = filter-all xs
about-rules made (DeleteRule key) e xs = filter-all xs
about-rules made (LockRule key delay) e xs = filter-all xs
about-rules made (UnlockRule key) e xs = filter-all xs
about-rules made request e xs = absurd (false≢true e)

-- it changes its account's rules
pub commits-rules : (rows : Rows) (at : Moment) (account : ℕ) (made : Option SnapKey) (volume : Option VolKey) (request : Request) → is_command request ≡ true
    → record rows { books = map.insert rows.books account (committed_by (book_of rows account) (ruled account (book_of rows account) at.second request)) } ≡ commit_by rows at account made volume request
commits-rules rows at account made volume (CreateRule days tags description delay) e = refl
commits-rules rows at account made volume (UpdateRule key days tags description) e = refl
commits-rules rows at account made volume (DeleteRule key) e = refl
commits-rules rows at account made volume (LockRule key delay) e = refl
commits-rules rows at account made volume (UnlockRule key) e = refl
commits-rules rows at account made volume request e = absurd (false≢true e)

-- what was passed of it
pub passed-rules : (rows : Rows) (at : Moment) (account : ℕ) (shared : List ℕ) (request : Request) → is_command request ≡ true → Passed rows at account shared request → IsRuled rows at account request
passed-rules rows at account shared (CreateRule days tags description delay) e p = p
passed-rules rows at account shared (UpdateRule key days tags description) e p = p
passed-rules rows at account shared (DeleteRule key) e p = p
passed-rules rows at account shared (LockRule key delay) e p = p
passed-rules rows at account shared (UnlockRule key) e p = p
passed-rules rows at account shared request e p = absurd (false≢true e)

-- each rule has a day at least after it
pub days-ruled : (rows : Rows) (now account : ℕ) (request : Request) → KeepsDays rows.books → is_command request ≡ true → IsFit request → HasDays (committed_by (book_of rows account) (ruled account (book_of rows account) now request))
days-ruled rows now account (CreateRule days tags description delay) h e fits = command-lasts account (book_of rows account) (book-lasts rows.books h account) now (rule.Create days tags description delay) fits
days-ruled rows now account (UpdateRule key days tags description) h e fits = command-lasts account (book_of rows account) (book-lasts rows.books h account) now (rule.Update key days tags description) fits
days-ruled rows now account (DeleteRule key) h e fits = command-lasts account (book_of rows account) (book-lasts rows.books h account) now (rule.Delete key) tt
days-ruled rows now account (LockRule key delay) h e fits = command-lasts account (book_of rows account) (book-lasts rows.books h account) now (rule.Lock key delay) tt
days-ruled rows now account (UnlockRule key) h e fits = command-lasts account (book_of rows account) (book-lasts rows.books h account) now (rule.Unlock key) tt
days-ruled rows now account request h e fits = absurd (false≢true e)

-- the room of a command that is accepted
pub taken-shelf : (h : Held) (account : ℕ) (d : Decided) (room : RuleRoom) → IsTaken d → HasRuleRoom h account d (Some room) → HasShelf h account room
taken-shelf h account (Ok change) room t r = r.1
taken-shelf h account (Err refusal) room t r = absurd t

pub taken-days : (h : Held) (account : ℕ) (b : Book) (d : Decided) (room : RuleRoom) → IsTaken d → HasRuleRoom h account d (Some room) → HasDays (committed_by b d) → HasDays (committed b room.change)
taken-days h account b (Ok change) room t r days = subst (λ c. HasDays (committed b c)) (sym r.0) days
taken-days h account b (Err refusal) room t r days = absurd t

pub taken-rules : (h : Held) (account : ℕ) (b : Book) (d : Decided) (room : RuleRoom) → IsTaken d → HasRuleRoom h account d (Some room) → committed b room.change ≡ committed_by b d
taken-rules h account b (Ok change) room t r = ap (committed b) r.0
taken-rules h account b (Err refusal) room t r = absurd t

pub taken-some : (h : Held) (account : ℕ) (d : Decided) → IsTaken d → HasRuleRoom h account d None → ⊥
taken-some h account (Ok change) t r = r
taken-some h account (Err refusal) t r = t
