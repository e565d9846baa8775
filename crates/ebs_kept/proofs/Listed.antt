-- The lists of blocks, of arrays whose blocks are shown whole.
use Rattle.std.proofs.Common.{◌≡◌, ℕ, cond, List, map, Option, None, Some, is_some, refl, sym, ap, ◌∙◌}
use Rattle.std.specs.Option.{option_map}
use Rattle.ebs_model.specs.Lists.{Pair}
use Rattle.ebs_model.specs.declared.entries.ChangedToken.{ChangedToken}
use Rattle.ebs_model.proofs.ListValues.{map-map, shown_pair, same-maps}
use Rattle.ebs_listing.specs.declared.pages.PageEntry.{PageEntry}
use Rattle.ebs_listing.specs.declared.pages.ChangedEntry.{ChangedEntry}
use Rattle.ebs_listing.specs.Sides.{as_block, as_pair}
use Rattle.ebs_kept.specs.inner.Changes.{Change, change, listed_change}

some-mapped : {X Y : Type 0} (f : X → Y) (o : Option X) → is_some (option_map f o) ≡ is_some o
some-mapped f None = refl
some-mapped f (Some x) = refl

-- what a page shows of what changed
pub change-shown : {X Y : Type 0} (f g : X → Y) (p : Pair X) → change (shown_pair f g p) ≡ change p
change-shown f g p = λ i. record { index = p.index; in_first = some-mapped f p.first i; in_second = some-mapped g p.second i }

-- the indexes of a page
pub page-indexes : (page : List PageEntry) (list : List (ℕ × _)) → map as_block page ≡ list → map (λ e. e.index) page ≡ map (λ e. e.0) list
page-indexes page list e = sym (map-map as_block (λ e. e.0) page) ∙ ap (map (λ e. e.0)) e

pub page-changes : (page : List ChangedEntry) (list : List (Pair _)) → map as_pair page ≡ list → map listed_change page ≡ map change list
page-changes page list e = sym (map-map as_pair change page) ∙ ap (map change) e

-- what is made of the indexes of a page
pub entries-listed : {B E : Type 0} (make : ℕ → E) (page : List PageEntry) (list : List (ℕ × B)) → map (λ e. e.index) page ≡ map (λ e. e.0) list → map (λ e. make e.index) page ≡ map (λ e. make e.0) list
entries-listed make page list e = sym (map-map (λ e. e.index) make page) ∙ ap (map make) e ∙ map-map (λ e. e.0) make list

-- what is made where there is something
token_by : {A : Type 0} (text : List ℕ) (o : Option A) → option_map (λ b. text) o ≡ cond (is_some o) (Some text) None
token_by text None = refl
token_by text (Some x) = refl

-- the tokens of a page of changes
module _ (first second : ℕ → List ℕ) where
  abbrev made : Change → ChangedToken
  made c = record { index = c.index; first = cond c.in_first (Some (first c.index)) None; second = cond c.in_second (Some (second c.index)) None }

  pub changes-listed : {B : Type 0} (page : List ChangedEntry) (list : List (Pair B)) → map listed_change page ≡ map change list
      → map {B = ChangedToken} (λ e. record { index = e.index; first = option_map (λ b. first e.index) e.first; second = option_map (λ b. second e.index) e.second }) page
      ≡ map (λ p. record { index = p.index; first = option_map (λ b. first p.index) p.first; second = option_map (λ b. second p.index) p.second }) list
  changes-listed page list e =
      same-maps _ (λ e. made (listed_change e)) (λ e. λ i. record { index = e.index; first = token_by (first e.index) e.first i; second = token_by (second e.index) e.second i }) page
      ∙ sym (map-map listed_change made page)
      ∙ ap (map made) e
      ∙ map-map change made list
      ∙ sym (same-maps _ (λ p. made (change p)) (λ p. λ i. record { index = p.index; first = token_by (first p.index) p.first i; second = token_by (second p.index) p.second i }) list)
