-- A record that is all of the bytes.
use Rattle.std.proofs.Common.{◌≡◌, ℕ, suc, arith, Bool, true, false, cond, eqb, List, [], ◌∷◌, ◌++◌, length, Err, refl, sym, ap, subst, ◌∙◌}
use Rattle.std.proofs.lemmas.Bool.{false≢true}
use Rattle.std.proofs.lemmas.Bool.Decides.{nat_tests}
use Rattle.std.proofs.lemmas.List.{append-nil}
use Rattle.ebs_records.specs.declared.codec.Unread.TheVariants.{Malformed}
use Rattle.ebs_records.specs.declared.record.Record.{Record}
use Rattle.ebs_records.specs.declared.records.Read.TheVariants.{Value, NoValue}
use Rattle.ebs_records.specs.inner.Reading.{Reads}
use Rattle.ebs_records.specs.Records.{IsRecord, HasSpelling, record_bytes, has_limits}
use Rattle.ebs_records.specs.inner.Records.{apart_record}
use Rattle.ebs_records.specs.inner.Whole.{Spells, judged}

pub read_whole : (bytes rest : List ℕ) (v : Record) → HasSpelling v → bytes ≡ record_bytes v ++ rest → Spells IsRecord record_bytes bytes (judged v (eqb (length rest) 0))
read_whole bytes [] v fits is = by (has_limits v) refl
  where
    by : (b : Bool) → has_limits v ≡ b → Spells IsRecord record_bytes bytes (cond b (Value v) NoValue)
    by true l = (record { spelled = fits; limits = l }, is ∙ append-nil (record_bytes v))
    by false l = λ w f e.
        let both = apart_record v w [] [] fits f.spelled (sym is ∙ e ∙ sym (append-nil (record_bytes w))) in
        false≢true (sym l ∙ ap has_limits both.0 ∙ f.limits)
read_whole bytes (b ∷ rest) v fits is = subst (λ (long : Bool). Spells IsRecord record_bytes bytes (judged v long)) (sym (more (length rest)))
    (λ w f e. cons_nil (apart_record v w (b ∷ rest) [] fits f.spelled (sym is ∙ e ∙ sym (append-nil (record_bytes w)))).1)
  where
    cons_nil : b ∷ rest ≡ [] → ⊥
    cons_nil e = cc

    more : (n : ℕ) → eqb (suc n) 0 ≡ false
    more n = grind (arith, nat_tests)

pub read_none : (bytes new : List ℕ) → Reads HasSpelling record_bytes bytes new (Err Malformed) → Spells IsRecord record_bytes bytes NoValue
read_none bytes new h v f e = h v [] f.spelled (e ∙ sym (append-nil (record_bytes v)))
