-- Laws of runs of calls on a disk.
use Rattle.std.specs.Prelude.{◌≡◌, true, ℕ, ◌+◌, ◌<◌, ◌≤◌, List, [], ◌∷◌, length, ◌++◌}
use Rattle.std.proofs.Common.{inl, inr, ⊎_elim, arith, refl, ◌∙◌, subst}
use Rattle.ebs_world.specs.declared.area.Area.{Area}
use Rattle.ebs_world.specs.Image.{Image, Images, Places, Was, Spells}
use Rattle.ebs_world.specs.View.{View, Leaves, IsTrueToItself, Ran}

-- what has P has Q
pub leaves_weaker : (old new : View) (P Q : Images) → ((c : Image) → P c → Q c) → Leaves old new P → Leaves old new Q
leaves_weaker old new P Q implies run = record {
  later = run.later;
  each = λ c left. implies c (run.each c left);
  before = λ t c le left. ⊎_elim (λ was. inl was) (λ has. inr (implies c has)) (run.before t c le left);
}

-- two runs, one after the other
pub leaves_on : (old mid new : View) (P : Images) → Leaves old mid P → Leaves mid new P → Leaves old new P
leaves_on old mid new P first second = record {
  later = omega (arith, first.later, second.later);
  each = λ c left. ⊎_elim (first.each c) (λ has. has) (second.before old.moment c first.later left);
  before = λ t c le left. ⊎_elim (first.before t c le) (λ has. inr has) (second.before t c (omega (arith, le, first.later)) left);
}

-- both hold of each image
pub leaves_both : (old new : View) (P Q : Images) → Leaves old new P → Leaves old new Q → Leaves old new (λ c. P c × Q c)
leaves_both old new P Q p q = record {
  later = p.later;
  each = λ c left. (p.each c left, q.each c left);
  before = λ t c le left. ⊎_elim (λ was. inl was) (λ has. ⊎_elim (λ was. inl was) (λ had. inr (has, had)) (q.before t c le left)) (p.before t c le left);
}

-- no call was made, and each image of now has P
pub leaves_not : (v : View) (P : Images) → IsTrueToItself v → v.honest ≡ true → ((c : Image) → v.may_leave c → P c) → Leaves v v P
leaves_not v P law honest has = record { later = omega arith; each = λ c left. has c (law.only_now honest c left); before = λ t c le left. inl left }

pub was_whole : (places : Places) (images : Images) (c : Image) → images c → Was places images c
was_whole places images c now = (c, now, λ a i here. refl)

pub was_weaker : (P Q : Places) (images : Images) → ((a : Area) (i : ℕ) → Q a i → P a i) → (c : Image) → Was P images c → Was Q images c
was_weaker P Q images implies c was = (was.0, was.1, λ a i here. was.2 a i (implies a i here))

pub was_on : (places : Places) (old mid : Images) → ((c : Image) → mid c → Was places old c) → (c : Image) → Was places mid c → Was places old c
was_on places old mid follows c was = let from = follows was.0 was.1 in (from.0, from.1, λ a i here. was.2 a i here ∙ from.2 a i here)

-- fewer places
pub ran_weaker : (P Q : Places) (old new : View) → ((a : Area) (i : ℕ) → Q a i → P a i) → Ran P old new → Ran Q old new
ran_weaker P Q old new implies run = record {
  told = run.told;
  kept_honest = run.kept_honest;
  kept = λ told a i here. run.kept told a i (implies a i here);
  images = λ honest c now. was_weaker P Q old.may_leave implies c (run.images honest c now);
  moments = λ honest. leaves_weaker old new (Was P old.may_leave) (Was Q old.may_leave) (was_weaker P Q old.may_leave implies) (run.moments honest);
  remembers = run.remembers;
  count = run.count;
}

-- two runs, one after the other
pub ran_on : (P : Places) (old mid new : View) → Ran P old mid → Ran P mid new → Ran P old new
ran_on P old mid new first second = record {
  told = second.told ∙ first.told;
  kept_honest = second.kept_honest ∙ first.kept_honest;
  kept = λ told a i here. second.kept (first.told ∙ told) a i here ∙ first.kept told a i here;
  images = λ honest c now. was_on P old.may_leave mid.may_leave (first.images honest) c (second.images (first.kept_honest ∙ honest) c now);
  moments = λ honest. leaves_on old mid new (Was P old.may_leave) (first.moments honest)
      (leaves_weaker mid new (Was P mid.may_leave) (Was P old.may_leave) (was_on P old.may_leave mid.may_leave (first.images honest)) (second.moments (first.kept_honest ∙ honest)));
  remembers = λ honest t c le left. second.remembers (first.kept_honest ∙ honest) t c (omega (arith, le, (first.moments honest).later)) (first.remembers honest t c le left);
  count = omega (arith, first.count, second.count);
}

-- no call was made
pub ran_not : (P : Places) (v : View) → IsTrueToItself v → Ran P v v
ran_not P v law = record {
  told = refl;
  kept_honest = refl;
  kept = λ told a i here. refl;
  images = λ honest c now. was_whole P v.may_leave c now;
  moments = λ honest. leaves_not v (Was P v.may_leave) law honest (was_whole P v.may_leave);
  remembers = λ honest t c le left. left;
  count = omega arith;
}

-- bytes that stand somewhere stand there after other bytes have changed
pub spells_same : (f g : ℕ → ℕ) (at : ℕ) (bytes : List ℕ) → ((i : ℕ) → at ≤ i → i < at + length bytes → g i ≡ f i) → Spells f at bytes → Spells g at bytes
spells_same f g at [] same spells = tt
spells_same f g at (b ∷ bytes) same spells = (same at (omega arith) (omega arith) ∙ spells.0, spells_same f g (at + 1) bytes (λ i from below. same i (omega (arith, from)) (omega (arith, below))) spells.1)

-- one piece behind the other
pub spells_append : (f : ℕ → ℕ) (at : ℕ) (xs ys : List ℕ) → Spells f at xs → Spells f (at + length xs) ys → Spells f at (xs ++ ys)
spells_append f at [] ys first second = subst (λ (n : ℕ). Spells f n ys) (omega arith) second
spells_append f at (x ∷ xs) ys first second = (first.0, spells_append f (at + 1) xs ys first.1 (subst (λ (n : ℕ). Spells f n ys) (omega arith) second))

pub spells_front : (f : ℕ → ℕ) (at : ℕ) (xs ys : List ℕ) → Spells f at (xs ++ ys) → Spells f at xs
spells_front f at [] ys spells = tt
spells_front f at (x ∷ xs) ys spells = (spells.0, spells_front f (at + 1) xs ys spells.1)

pub spells_back : (f : ℕ → ℕ) (at : ℕ) (xs ys : List ℕ) → Spells f at (xs ++ ys) → Spells f (at + length xs) ys
spells_back f at [] ys spells = subst (λ (n : ℕ). Spells f n ys) (omega arith) spells
spells_back f at (x ∷ xs) ys spells = subst (λ (n : ℕ). Spells f n ys) (omega arith) (spells_back f (at + 1) xs ys spells.1)
