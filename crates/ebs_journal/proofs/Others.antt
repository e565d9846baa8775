-- A journal stays where only other bytes change.
use Rattle.std.proofs.Common.{◌≡◌, inl, inr, ℕ, ◌+◌, List, [], ◌∷◌, ◌++◌, length, Some, refl, sym, ◌∙◌}
use Rattle.ebs_world.specs.declared.area.Area.{Area}
use Rattle.ebs_world.specs.declared.area.Area.TheVariants.{Journal0, Journal1, Archive}
use Rattle.ebs_world.specs.Image.{Image, Keeps}
use Rattle.ebs_world.specs.inner.Runs.{spells_same}
use Rattle.ebs_journal.specs.Format.{entry, entries, open_head, head_of}
use Rattle.ebs_journal.specs.Opening.{counted, counted_of, IsMade, IsJournal}
use Rattle.ebs_journal.specs.inner.Standing.{OnJournal, IsStaged, IsTurned}
use Rattle.ebs_journal.specs.inner.Areas.{other}
use Rattle.ebs_journal.proofs.Areas.{other_journal}
use Rattle.ebs_journal.proofs.Counting.{open_counted}
use Rattle.ebs_journal.proofs.Fronts.{front_same}

module _ (c d : Image) (kept : Keeps OnJournal c d) where
  made_on : IsMade c → IsMade d
  made_on made is = made (sym (kept Archive 0 (inr (refl, refl))) ∙ is)

  counted_on : counted d ≡ counted c
  counted_on = (λ k. counted_of (front_same (c Journal0) (d Journal0) (λ i below. kept Journal0 i (inl refl)) k) (front_same (c Journal1) (d Journal1) (λ i below. kept Journal1 i (inl refl)) k))

  same_bytes : (area : Area) → counted c ≡ Some area → (i : ℕ) → d area i ≡ c area i
  same_bytes area counts i = kept area i (inl (open_counted c area counts).0)

  pub journal_kept : (area : Area) (epoch : ℕ) (checkpoint : List ℕ) (rs : List (List ℕ)) → IsJournal c area epoch checkpoint rs → IsJournal d area epoch checkpoint rs
  journal_kept area epoch checkpoint rs is = record {
    made = made_on is.made;
    counts = counted_on ∙ is.counts;
    short = is.short;
    has = record {
      spelled = spells_same (c area) (d area) 0 (open_head epoch checkpoint ++ entries rs) (λ i from below. same_bytes area is.counts i) is.has.spelled;
      shut = λ one. is.has.shut (sym (same_bytes area is.counts (length (open_head epoch checkpoint ++ entries rs))) ∙ one);
    };
  }

  pub staged_kept : (area : Area) (epoch : ℕ) (checkpoint : List ℕ) (rs : List (List ℕ)) (r : List ℕ) → IsStaged c area epoch checkpoint rs r → IsStaged d area epoch checkpoint rs r
  staged_kept area epoch checkpoint rs r is = record {
    made = made_on is.made;
    counts = counted_on ∙ is.counts;
    short = is.short;
    staged = record {
      spelled = spells_same (c area) (d area) 0 (open_head epoch checkpoint ++ entries rs) (λ i from below. same_bytes area is.counts i) is.staged.spelled;
      behind = spells_same (c area) (d area) (length (open_head epoch checkpoint ++ entries rs) + 1) (entry r ++ 0 ∷ []) (λ i from below. same_bytes area is.counts i) is.staged.behind;
    };
  }

  pub turned_kept : (area : Area) (epoch : ℕ) (checkpoint : List ℕ) (rs : List (List ℕ)) (next : List ℕ) → IsTurned c area epoch checkpoint rs next → IsTurned d area epoch checkpoint rs next
  turned_kept area epoch checkpoint rs next is = record {
    made = made_on is.made;
    in_journal = is.in_journal;
    short = is.short;
    has = record {
      spelled = spells_same (c area) (d area) 0 (open_head epoch checkpoint ++ entries rs) (λ i from below. kept area i (inl is.in_journal)) is.has.spelled;
      shut = λ one. is.has.shut (sym (kept area (length (open_head epoch checkpoint ++ entries rs)) (inl is.in_journal)) ∙ one);
    };
    short_next = is.short_next;
    behind = spells_same (c (other area)) (d (other area)) 1 (head_of (epoch + 1) next ++ 0 ∷ []) (λ i from below. kept (other area) i (inl (other_journal area))) is.behind;
  }
