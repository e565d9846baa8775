-- Beside what is promised: records of the journal.
use Rattle.std.proofs.Common.{ℕ, ◌++◌, refl, ◌≡◌, List, ◌∷◌, ap}
use Rattle.ebs_model.specs.declared.keys.Moment.{Moment}
use Rattle.ebs_records.specs.declared.record.AcceptedCall.{AcceptedCall}
use Rattle.ebs_records.specs.declared.record.Transfer.{Transfer}
use Rattle.ebs_records.specs.declared.record.Record.TheVariants.{Accepted, Advance, Moved}
use Rattle.ebs_records.specs.Calls.{IsAsked, called_in}
use Rattle.ebs_records.specs.Fields.{long, IsAccount, IsMoment, moment, IsWord, IsLong, word, flag, IsFlag, IsKey, key}
use Rattle.ebs_records.specs.Records.{IsAcceptedCall, accepted, IsTransfer, transfer, HasSpelling, record_bytes}
use Rattle.ebs_records.specs.inner.Apart.{Apart, apart_pair, apart_by}
use Rattle.ebs_records.specs.inner.Calls.{apart_asked}
use Rattle.ebs_records.specs.inner.Choices.{apart_flag}
use Rattle.ebs_records.specs.inner.Keys.{apart_account, apart_moment, apart_key}
use Rattle.ebs_records.specs.inner.Numbers.{apart_word, apart_long}

-- ---- no spelling begins another

pub apart_accepted : Apart IsAcceptedCall accepted
apart_accepted = apart_by {V = AcceptedCall} (λ a. ((a.at, a.account), (a.request, a.slot))) (λ p. record { at = p.0.0; account = p.0.1; request = p.1.0; slot = p.1.1 })
    (λ p. (IsMoment p.0.0 × IsAccount p.0.1) × IsAsked p.1) (λ p. (moment p.0.0 ++ long p.0.1) ++ called_in p.1) (λ v. refl)
    (apart_pair (λ (p : Moment × ℕ). IsMoment p.0 × IsAccount p.1) (λ p. moment p.0 ++ long p.1) IsAsked called_in (apart_pair IsMoment moment IsAccount long apart_moment apart_account) apart_asked)

pub apart_transfer : Apart IsTransfer transfer
apart_transfer = apart_by {V = Transfer} (λ t. (t.key, (t.index, (t.to_archive, (t.copy, t.slot))))) (λ p. record { key = p.0; index = p.1.0; to_archive = p.1.1.0; copy = p.1.1.1.0; slot = p.1.1.1.1 })
    (λ p. IsKey p.0 × (IsWord p.1.0 × (IsFlag p.1.1.0 × (IsLong p.1.1.1.0 × IsLong p.1.1.1.1)))) (λ p. key p.0 ++ (word p.1.0 ++ (flag p.1.1.0 ++ (long p.1.1.1.0 ++ long p.1.1.1.1)))) (λ v. refl)
    (apart_pair IsKey key _ _ apart_key (apart_pair IsWord word _ _ apart_word (apart_pair IsFlag flag _ _ apart_flag (apart_pair IsLong long IsLong long apart_long apart_long))))

heads : (m n : ℕ) (x y : List ℕ) → m ∷ x ≡ n ∷ y → (m ≡ n) × (x ≡ y)
heads m n x y e = (cc, cc)

pub apart_record : Apart HasSpelling record_bytes
apart_record (Accepted v) (Accepted w) x y a b e = let both = apart_accepted v w x y a b (heads 1 1 (accepted v ++ x) (accepted w ++ y) e).1 in (ap Accepted both.0, both.1)
apart_record (Advance v) (Advance w) x y a b e = let both = apart_moment v w x y a b (heads 2 2 (moment v ++ x) (moment w ++ y) e).1 in (ap Advance both.0, both.1)
apart_record (Moved v) (Moved w) x y a b e = let both = apart_transfer v w x y a b (heads 3 3 (transfer v ++ x) (transfer w ++ y) e).1 in (ap Moved both.0, both.1)
apart_record (Accepted v) (Advance w) x y a b e = absurd cc
apart_record (Accepted v) (Moved w) x y a b e = absurd cc
apart_record (Advance v) (Accepted w) x y a b e = absurd cc
apart_record (Advance v) (Moved w) x y a b e = absurd cc
apart_record (Moved v) (Accepted w) x y a b e = absurd cc
apart_record (Moved v) (Advance w) x y a b e = absurd cc
