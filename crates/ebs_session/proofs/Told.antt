-- What a status tells.
use Rattle.std.proofs.Common.{◌≡◌, ◌⊎◌, inl, inr, ℕ, ◌<◌, refl, sym, ap, ◌∙◌, arith}
use Rattle.ebs_model.specs.Quotas.{Rose}
use Rattle.ebs_session.specs.Session.{TellsOf, status_of}
use Rattle.ebs_session.specs.declared.end.End.{End}
use Rattle.ebs_session.specs.declared.end.End.TheVariants.{Done, InputFailed, OutputFailed, Cut, Bad, Memory, Limit}

pub four : (end : End) → status_of end ≡ 4 → end ≡ InputFailed
four Done is = absurd (omega (arith, is))
four InputFailed is = refl
four OutputFailed is = absurd (omega (arith, is))
four (Cut waiting) is = absurd (omega (arith, is))
four (Bad place) is = absurd (omega (arith, is))
four Memory is = absurd (omega (arith, is))
four Limit is = absurd (omega (arith, is))

pub five : (end : End) → status_of end ≡ 5 → end ≡ OutputFailed
five Done is = absurd (omega (arith, is))
five InputFailed is = absurd (omega (arith, is))
five OutputFailed is = refl
five (Cut waiting) is = absurd (omega (arith, is))
five (Bad place) is = absurd (omega (arith, is))
five Memory is = absurd (omega (arith, is))
five Limit is = absurd (omega (arith, is))

-- a count that stands at every other end
pub four_where : (end : End) (before now : ℕ) → ((end ≡ InputFailed → ⊥) → now ≡ before) → before < now → status_of end ≡ 4
four_where InputFailed before now quiet rose = refl
four_where Done before now quiet rose = absurd (omega (arith, rose, quiet (λ e. cc)))
four_where OutputFailed before now quiet rose = absurd (omega (arith, rose, quiet (λ e. cc)))
four_where (Cut waiting) before now quiet rose = absurd (omega (arith, rose, quiet (λ e. cc)))
four_where (Bad place) before now quiet rose = absurd (omega (arith, rose, quiet (λ e. cc)))
four_where Memory before now quiet rose = absurd (omega (arith, rose, quiet (λ e. cc)))
four_where Limit before now quiet rose = absurd (omega (arith, rose, quiet (λ e. cc)))

pub five_where : (end : End) (before now : ℕ) → ((end ≡ OutputFailed → ⊥) → now ≡ before) → before < now → status_of end ≡ 5
five_where OutputFailed before now quiet rose = refl
five_where Done before now quiet rose = absurd (omega (arith, rose, quiet (λ e. cc)))
five_where InputFailed before now quiet rose = absurd (omega (arith, rose, quiet (λ e. cc)))
five_where (Cut waiting) before now quiet rose = absurd (omega (arith, rose, quiet (λ e. cc)))
five_where (Bad place) before now quiet rose = absurd (omega (arith, rose, quiet (λ e. cc)))
five_where Memory before now quiet rose = absurd (omega (arith, rose, quiet (λ e. cc)))
five_where Limit before now quiet rose = absurd (omega (arith, rose, quiet (λ e. cc)))

pub eight : (end : End) → status_of end ≡ 8 → end ≡ Memory
eight Done is = absurd (omega (arith, is))
eight InputFailed is = absurd (omega (arith, is))
eight OutputFailed is = absurd (omega (arith, is))
eight (Cut waiting) is = absurd (omega (arith, is))
eight (Bad place) is = absurd (omega (arith, is))
eight Memory is = refl
eight Limit is = absurd (omega (arith, is))

in_is_not_out : InputFailed ≡ OutputFailed → ⊥
in_is_not_out is = cc

memory_is_not_in : Memory ≡ InputFailed → ⊥
memory_is_not_in is = cc

memory_is_not_out : Memory ≡ OutputFailed → ⊥
memory_is_not_out is = cc

pub at_four : (end : End) (i j o p : ℕ) → TellsOf end i j o p → status_of end ≡ 4 → Rose i j × (p ≡ o)
at_four end i j o p t told = let e = four end told in (t.input e, t.output_quiet (λ f. in_is_not_out (sym e ∙ f)))

pub at_five : (end : End) (i j o p : ℕ) → TellsOf end i j o p → status_of end ≡ 5 → Rose o p × (j ≡ i)
at_five end i j o p t told = let e = five end told in (t.output e, t.input_quiet (λ f. in_is_not_out (sym f ∙ e)))

pub at_eight : (end : End) (i j o p : ℕ) → TellsOf end i j o p → status_of end ≡ 8 → (j ≡ i) × (p ≡ o)
at_eight end i j o p t told = let e = eight end told in (t.input_quiet (λ f. memory_is_not_in (sym e ∙ f)), t.output_quiet (λ f. memory_is_not_out (sym e ∙ f)))

pub source_rose : (end : End) (i j o p : ℕ) → TellsOf end i j o p → i < j → status_of end ≡ 4
source_rose end i j o p t rose = four_where end i j t.input_quiet rose

pub sink_rose : (end : End) (i j o p : ℕ) → TellsOf end i j o p → o < p → status_of end ≡ 5
sink_rose end i j o p t rose = five_where end o p t.output_quiet rose

pub whole : (end : End) → (end ≡ Done) ⊎ (end ≡ Memory) → (status_of end ≡ 0) ⊎ (status_of end ≡ 8)
whole end (inl e) = inl (ap status_of e)
whole end (inr e) = inr (ap status_of e)
