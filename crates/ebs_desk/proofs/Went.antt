-- Turns one after the other: what they leave, and that their line is legal.
use Rattle.std.proofs.Common.{◌≡◌, ℕ, ◌+◌, ◌≤◌, List, [], ◌∷◌, ◌++◌, length, Bool, false, Some, None, slice_get, refl, ap, sym, ◌∙◌, subst, arith, append_assoc, append-nil, length-append}
use Rattle.ebs_world.specs.View.{View}
use Rattle.ebs_turns.specs.declared.line.Turn.{Turn}
use Rattle.ebs_turns.specs.Line.{out_after, out_by}
use Rattle.ebs_desk.specs.declared.item.Item.{Item}
use Rattle.ebs_desk.specs.declared.item.Item.TheVariants.{Entry, Fault, Tick, Saving, Full, Staged, Blank}
use Rattle.ebs_desk.specs.declared.shelf.Shelf.{Shelf}
use Rattle.ebs_recovery.specs.inner.Fits.{Seen, Fits}
use Rattle.ebs_desk.specs.Line.{run_items, AllAt, entries_in, history, block_under}
use Rattle.ebs_desk.specs.Turns.{Did, Went, Follows}
use Rattle.ebs_desk.proofs.Leases.{MovesLeases, block_more}

module _ {D : Type 0} where
  pub history-append : (xs ys : List (Turn (Item D))) → history (xs ++ ys) ≡ history xs ++ history ys
  history-append [] ys = refl
  history-append (x ∷ xs) ys = ap (λ l. entries_in x.item x ++ l) (history-append xs ys) ∙ sym (append_assoc (entries_in x.item x) (history xs) (history ys))

  entry_small : (i : Item D) (x : Turn (Item D)) → length (entries_in i x) ≤ 1
  entry_small (Entry account reading asked said) x = omega arith
  entry_small (Fault before after) x = omega arith
  entry_small (Tick reading work progress) x = omega arith
  entry_small (Saving left) x = omega arith
  entry_small Full x = omega arith
  entry_small (Staged block) x = omega arith
  entry_small Blank x = omega arith

  pub history_small : (xs : List (Turn (Item D))) → length (history xs) ≤ length xs
  history_small [] = omega arith
  history_small (x ∷ xs) = let e = entry_small x.item x in let h = history_small xs in omega (arith, length-append (entries_in x.item x) (history xs))

  out_more : (slot : ℕ) (out : Bool) (xs : List (Turn (Item D))) (x : Turn (Item D)) → out_by slot out (xs ++ x ∷ []) ≡ out_after slot (out_by slot out xs) x.deed
  out_more slot out [] x = refl
  out_more slot out (y ∷ ys) x = out_more slot (out_after slot out y.deed) ys x

-- one more stands behind all before
pub get_behind : {A : Type 0} (xs : List A) (x : A) → slice_get (xs ++ x ∷ []) (length xs) ≡ Some x
get_behind [] x = refl
get_behind (y ∷ ys) x = get_behind ys x

module _ {D : Type 0} (sound : Type 0) (view : D → View) where
  pub went_more : (s : Seen) (d : D) (line : List (Turn (Item D))) (t : Seen) (e : D) (x : Turn (Item D)) (u : Seen) (f : D) → Went sound view s d line t e → Did sound view t e x.item u f → Went sound view s d (line ++ x ∷ []) u f
  went_more s d [] t e x u f went did = (u, f, subst (λ (z : Seen × D). Did sound view z.0 z.1 x.item u f) (λ i. (went.0 i, went.1 i)) did, (refl, refl))
  went_more s d (y ∷ ys) t e x u f went did = (went.0, went.1, went.2, went_more went.0 went.1 ys t e x u f went.3 did)

  -- a turn more
  pub follows_more : (first : Shelf Seen D) (line : List (Turn (Item D))) (last : Shelf Seen D) (x : Turn (Item D)) (next : Shelf Seen D) → Follows sound view first line last
      → Did sound view last.store last.disk x.item next.store next.disk → Fits sound (view next.disk) next.store → next.entries ≡ last.entries + length (entries_in x.item x)
      → MovesLeases (view last.disk) (view next.disk) last.store next.store x.item x.deed → Follows sound view first (line ++ x ∷ []) next
  follows_more first line last x next f did fits entries moves = record {
    went = went_more first.store first.disk line last.store last.disk x next.store next.disk f.went did;
    fits = fits;
    counted = (let a = ap length (history-append line (x ∷ [])) in let b = length-append (history line) (entries_in x.item x ++ []) in let c = ap length (append-nil (entries_in x.item x)) in let d = f.counted in omega arith);
    leases = λ slot. moves.out slot ∙ (ap (λ out. out_after slot out x.deed) (f.leases slot) ∙ sym (out_more slot false line x));
    staged = λ slot block e. moves.staged slot (block_under slot line) (f.staged slot) block (sym (block_more slot None line x) ∙ e);
  }

  -- what holds of each item at its place, and where that ends, by what one turn does
  pub along : {M : Type 0} (after : M → Item D → M) (Is : M → Item D → Type 0) (R : M → Seen → D → Type 0)
      → ((m : M) (s : Seen) (d : D) (item : Item D) (t : Seen) (e : D) → Did sound view s d item t e → R m s d → Is m item × R (after m item) t e)
      → (m : M) (s : Seen) (d : D) (line : List (Turn (Item D))) (t : Seen) (e : D) → Went sound view s d line t e → R m s d → AllAt after Is m line × R (run_items after m line) t e
  along after Is R one m s d [] t e went r = (tt, subst (λ (z : Seen × D). R m z.0 z.1) (λ i. (sym went.0 i, sym went.1 i)) r)
  along after Is R one m s d (x ∷ xs) t e went r = let here = one m s d x.item went.0 went.1 went.2 r in let rest = along after Is R one (after m x.item) went.0 went.1 xs t e went.3 here.1 in ((here.0, rest.0), rest.1)

-- of a step of one machine from an equal one
pub same_step : {M A : Type 0} (f : M → M × A) (m n next : M) (a : A) → m ≡ n → f n ≡ (next, a) → (a ≡ (f m).1) × ((f m).0 ≡ next)
same_step f m n next a same is = let e = ap f same ∙ is in (sym (ap (λ z. z.1) e), ap (λ z. z.0) e)
