-- Members that are read one after another.
use Rattle.std.proofs.Common.{◌≡◌, ℕ, ◌<◌, ◌^◌, List, [], ◌∷◌, ◌++◌, length, Result, Ok, Err, sym, ◌∙◌, append_assoc, arith}
use Rattle.std.specs.List.{flat_map, AllByRecursion}
use Rattle.ebs_records.specs.declared.codec.Unread.{Unread}
use Rattle.ebs_records.specs.declared.codec.Unread.TheVariants.{Malformed, Memory}
use Rattle.ebs_records.specs.inner.Apart.{Apart}
use Rattle.ebs_records.specs.Fields.{word, members, AreMembers}
use Rattle.ebs_records.specs.inner.Numbers.{apart_word}
use Rattle.ebs_records.specs.inner.Reading.{Reads}

module _ {V : Type 0} (fits : V → Type 0) (spelled : V → List ℕ) where
  -- what follows the first members of a longer list begins with its next member
  pub record Begins (now : List ℕ) : Type 0 where
    pub member : V
    pub after : List ℕ
    pub member_fits : fits member
    pub parts : now ≡ spelled member ++ after

  next_member : Apart fits spelled → (vs ws : List V) (now rest : List ℕ) → AllByRecursion fits vs → AllByRecursion fits ws → length vs < length ws → flat_map spelled vs ++ now ≡ flat_map spelled ws ++ rest → Begins now
  next_member apart [] [] now rest a b n e = absurd (omega (arith, n))
  next_member apart (v ∷ vs) [] now rest a b n e = absurd (omega (arith, n))
  next_member apart [] (w ∷ ws) now rest a b n e = record { member = w; after = flat_map spelled ws ++ rest; member_fits = b.0; parts = e ∙ append_assoc (spelled w) (flat_map spelled ws) rest }
  next_member apart (v ∷ vs) (w ∷ ws) now rest a b n e =
      let first = apart v w (flat_map spelled vs ++ now) (flat_map spelled ws ++ rest) a.0 b.0 (sym (append_assoc (spelled v) (flat_map spelled vs) now) ∙ e ∙ append_assoc (spelled w) (flat_map spelled ws) rest) in
      next_member apart vs ws now rest a.1 b.1 (omega (arith, n)) first.1

  pub no_list : Apart fits spelled → (count : ℕ) (vs : List V) (old now new : List ℕ) (e : Unread) → length vs < count → AllByRecursion fits vs → old ≡ flat_map spelled vs ++ now → Reads fits spelled now new (Err e) → Reads (λ items. (length items ≡ count) × AllByRecursion fits items) (flat_map spelled) old new (Err e)
  no_list apart count vs old now new Memory n a is h = tt
  no_list apart count vs old now new Malformed n a is h = λ ws rest f o.
      let w = next_member apart vs ws now rest a f.1 (omega (arith, n, f.0)) (sym is ∙ o) in h w.member w.after w.member_fits w.parts

  pub whole_list : (count : ℕ) (old mid new : List ℕ) (r : Result (List V) Unread) → count < 2 ^ 32 → old ≡ word count ++ mid → Reads (λ items. (length items ≡ count) × AllByRecursion fits items) (flat_map spelled) mid new r → Reads (AreMembers fits) (members spelled) old new r
  whole_list count old mid new (Ok vs) small is h =
      ((omega (arith, small, h.0.0), h.0.1), is ∙ (λ i. word (sym h.0.0 i) ++ h.1 i) ∙ sym (append_assoc (word (length vs)) (flat_map spelled vs) new))
  whole_list count old mid new (Err Memory) small is h = tt
  whole_list count old mid new (Err Malformed) small is h = λ ws rest f o.
      let both = apart_word count (length ws) mid (flat_map spelled ws ++ rest) small f.0 (sym is ∙ o ∙ append_assoc (word (length ws)) (flat_map spelled ws) rest) in
      h ws rest (sym both.0, f.1) both.1
