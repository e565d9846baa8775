-- What the kept form does for a change of a row.
use Rattle.std.proofs.Common.{◌≡◌, ℕ, Bool, true, false, [], None, Result, Ok, Err, sym, ap, subst, ◌∙◌}
use Rattle.ebs_model.specs.declared.request.Request.{Request}
use Rattle.ebs_model.specs.declared.answer.Answer.{Answer}
use Rattle.ebs_model.specs.declared.answer.Failure.{Failure}
use Rattle.ebs_model.specs.declared.answer.Failure.TheVariants.{Refused, Memory}
use Rattle.ebs_model.specs.declared.answer.Refusal.{Refusal}
use Rattle.ebs_model.specs.declared.answer.Refusal.TheVariants.{Exhausted}
use Rattle.ebs_model.specs.declared.answer.Spent.TheVariants.{Changes}
use Rattle.ebs_model.specs.declared.change.Change.{Change}
use Rattle.ebs_model.specs.declared.change.Decision.{Decision}
use Rattle.ebs_model.specs.declared.change.Decision.TheVariants as decision
use Rattle.ebs_model.specs.Refuse.{◌>>=◌, ◌>>◌, refuse_if}
use Rattle.ebs_model.specs.Kept.{same}
use Rattle.ebs_model.specs.Limits.{bad_member}
use Rattle.ebs_model.specs.Machine.{Machine, rows_of, is_spent}
use Rattle.ebs_model.specs.Decide.{decide}
use Rattle.ebs_model.specs.Step.{act, finish, changed, bytes_of, refuse_size, refuse_digest, refuse_linear}
use Rattle.ebs_kept.specs.inner.Requests.{Brings}
use Rattle.ebs_kept.specs.inner.Wants.{Tells}
use Rattle.ebs_kept.proofs.Decided.{acts, fits, decides}
use Rattle.ebs_recovery.specs.inner.Changes.{IsRowChange}
use Rattle.ebs_disk_store.specs.inner.Calls.{Rules, ruling_of}
use Rattle.ebs_disk_store.proofs.RowCalls.{plain, reads_none}

module _ (m : Machine) (account : ℕ) (request : Request) (row : IsRowChange request) (within : bad_member request ≡ None) (sized : refuse_size request ≡ Ok tt) where
  finishes : (d : Decision) → decide (rows_of m) m.clock account request ≡ Ok d → act same m account request ≡ finish same m request d
  finishes d e = let p = plain request row in sym (acts m account request [] d p.none sized e) ∙ ap (λ (r : Request). finish same m r d) (p.digest [])

  change_is : (change : Change) (answer : Answer) (tested : Result (Unit {0}) Refusal) (spent : Bool) → tested ≡ refuse_linear same m request → is_spent m ≡ spent
      → finish same m request (decision.Change change answer) ≡ (tested >> (refuse_if spent (Exhausted Changes) >> Ok (changed m [] change, answer)))
  change_is change answer tested spent linear is = let p = plain request row in λ i. sym linear i >> (refuse_if (is i) (Exhausted Changes) >> Ok (changed m (p.bytes i) change, answer))

  pub rules_of : (d : Decision) (tested : Result (Unit {0}) Refusal) (spent : Bool) → tested ≡ refuse_linear same m request → spent ≡ is_spent m → decide (rows_of m) m.clock account request ≡ Ok d
      → Rules m account request (ruling_of d tested spent)
  rules_of (decision.Change change answer) (Err refusal) spent linear is e = finishes (decision.Change change answer) e ∙ change_is change answer (Err refusal) spent linear (sym is)
  rules_of (decision.Change change answer) (Ok tested) true linear is e = finishes (decision.Change change answer) e ∙ change_is change answer (Ok tested) true linear (sym is)
  rules_of (decision.Change change answer) (Ok tested) false linear is e =
      let p = plain request row in
      let d = decides (rows_of m) m.clock account request [] (decision.Change change answer) (fits request within sized) e in (
        record {
          at = d.0;
          decided = d.1;
          brings = λ digest. subst (Brings change.request digest) (ap bytes_of (p.digest digest) ∙ p.bytes)
              (decides (rows_of m) m.clock account request digest (decision.Change change answer) (fits request within sized) e).2;
          unspent = sym is;
          acts = finishes (decision.Change change answer) e ∙ change_is change answer (Ok tested) false linear (sym is);
        },
        e,
      )
  rules_of (decision.Kept answer) tested spent linear is e = finishes (decision.Kept answer) e
  rules_of (decision.View answer) tested spent linear is e = finishes (decision.View answer) e
  rules_of (decision.Read r) tested spent linear is e = finishes (decision.Read r) e ∙ ap (λ (x : Result Answer Refusal). x >>= λ a. Ok (m, a)) (reads_none m request r row)

  pub rules_err : (r : Refusal) → Err r ≡ decide (rows_of m) m.clock account request → Rules m account request (Err (Refused r))
  rules_err r e = let p = plain request row in λ i. sized i >> (p.unhashed i >> (sym e i >>= finish same m request))

-- what is told where the decision was in want of memory
pub rules_told : (m : Machine) (account : ℕ) (request : Request) (f : Failure) → Tells f (act same m account request) → Rules m account request (Err f)
rules_told m account request (Refused r) h = sym h
rules_told m account request Memory h = h

-- the size is tested first
pub rules_sized : (m : Machine) (account : ℕ) (request : Request) (r : Refusal) → Err r ≡ refuse_size request → Rules m account request (Err (Refused r))
rules_sized m account request r e = λ i. sym e i >> (refuse_digest same request >> (decide (rows_of m) m.clock account request >>= finish same m request))
