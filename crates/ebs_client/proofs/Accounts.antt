-- Accounts in JSON: in order, printed and read back.
use Rattle.std.proofs.Common.{◌≡◌, ℕ, ◌<◌, ◌≤◌, ◌^◌, true, false, ◌==◌, nat_lt, map, List, [], ◌∷◌, ◌++◌, length, refl, sym, ap, subst, ◌∙◌, arith, codes, append_assoc, append-nil}
use Rattle.std.specs.declared.option.Option.TheVariants.{Some}
use Rattle.std.specs.Option.{option_map, option_and_then}
use Rattle.std.specs.List.{AllByRecursion}
use Rattle.std.specs.Ordering.{nat_cmp}
use Rattle.std.specs.declared.cmp.Ordering.TheVariants.{Greater}
use Rattle.std.specs.Cmp.{nat_cmp_total}
use Rattle.std.specs.FinMap as fin
use Rattle.std.specs.FinMap.{entries-insert, len-empty, len-entries}
use Rattle.std.specs.FinMap.Entries.{put, by_order}
use Rattle.std.proofs.Math.Nat.{max-le}
use Rattle.std.proofs.lemmas.Bool.{and_parts}
use Rattle.std.proofs.lemmas.Bool.Decides.{nat_tests}
use Rattle.json.specs.Tree.{items_tokens, items_depth, ItemsHaveNumbers}
use Rattle.json.proofs.Printed.Utf8.{IsUtf8-are_ascii, IsUtf8-quoted}
use Rattle.serde_json.specs.Data.{Items, no_items, item, string}
use Rattle.serde_json.specs.Read.{of_items}
use Rattle.ebs_model.specs.Ids.{decimal_of_width}
use Rattle.ebs_model.specs.Limits.{is_below, rises}
use Rattle.ebs_model.specs.Calls.Permission.{AccountSet, with_all, permitted}
use Rattle.ebs_model.proofs.ReaderLaws.{account_whole}
use Rattle.ebs_members.specs.Kinds as kind
use Rattle.ebs_client.specs.Bodies.{accounts}
use Rattle.ebs_client.proofs.Pieces.{piece_in_path, account_piece}
use Rattle.ebs_client.proofs.Texts.{plain_text}
use Rattle.ebs_client.proofs.Bodies.{AreTexts}

abbrev pub AreBelow : ℕ → List ℕ → Type 0
AreBelow bound = AllByRecursion (λ account. account < bound)

greater : (a b : ℕ) → b < a → nat_cmp a b ≡ Greater
greater a b h =
    let less : nat_lt a b ≡ false = grind (arith, nat_tests) in
    let equal : (a == b) ≡ false = grind (arith, nat_tests) in
    rw (less, equal) refl

abbrev pub Listed : Type 0
Listed = List (ℕ × Unit {0})

abbrev pub those : Listed → List ℕ
those = map (λ e. e.0)

-- one above all that are there comes last
comes_last : (account : ℕ) (listed : Listed) → AreBelow account (those listed) → those (put nat_cmp account tt listed) ≡ those listed ++ account ∷ []
comes_last account [] h = refl
comes_last account (e ∷ listed) h =
    ap (λ order. those (by_order order ((account, tt) ∷ e ∷ listed) ((e.0, tt) ∷ listed) (e ∷ put nat_cmp account tt listed))) (greater account e.0 h.0)
    ∙ ap (λ others. e.0 ∷ others) (comes_last account listed h.1)

inserted : (account : ℕ) (set : AccountSet) (there : List ℕ) → fin.keys set ≡ there → AreBelow account there → fin.keys (fin.insert set account tt) ≡ there ++ account ∷ []
inserted account set there is below =
    ap those (entries-insert nat_cmp_total set account tt) ∙ comes_last account (fin.entries set) (subst (AreBelow account) (sym is) below) ∙ ap (λ others. others ++ account ∷ []) is

-- all that are there are below the first that comes
abbrev Precede : List ℕ → List ℕ → Type 0
Precede there [] = Unit {0}
Precede there (account ∷ coming) = AreBelow account there

risen : (account next : ℕ) (there : List ℕ) → account < next → AreBelow account there → AreBelow next (there ++ account ∷ [])
risen account next [] less h = (less, tt)
risen account next (one ∷ there) less h = let low : one < account = h.0 in (omega arith, risen account next there less h.1)

next_precede : (account : ℕ) (there coming : List ℕ) → is_below account coming ≡ true → AreBelow account there → Precede (there ++ account ∷ []) coming
next_precede account there [] h below = tt
next_precede account there (next ∷ coming) h below = let less : account < next = grind (arith, nat_tests) in risen account next there less below

appended : (coming there : List ℕ) (set : AccountSet) → fin.keys set ≡ there → Precede there coming → rises coming ≡ true → fin.keys (with_all coming set) ≡ there ++ coming
appended [] there set is precede h = is ∙ sym (append-nil there)
appended (account ∷ coming) there set is precede h =
    let parts = and_parts _ _ h in
    appended coming (there ++ account ∷ []) (fin.insert set account tt) (inserted account set there is precede) (next_precede account there coming parts.0 precede) parts.1
    ∙ append_assoc there (account ∷ []) coming

nothing : {A : Type 0} (xs : List A) → length xs ≡ 0 → xs ≡ []
nothing [] e = refl
nothing (x ∷ xs) e = absurd (omega arith)

pub no_keys : fin.keys {X = Unit {0}} {R = nat_cmp} fin.empty ≡ []
no_keys = ap those (nothing _ (sym (len-entries (fin.empty {X = Unit {0}} {R = nat_cmp})) ∙ len-empty nat_cmp (Unit {0})))

none_precede : (coming : List ℕ) → Precede [] coming
none_precede [] = tt
none_precede (account ∷ coming) = tt

-- accounts that ascend are held as they are
pub in_order : (chosen : List ℕ) → rises chosen ≡ true → permitted chosen [] [] ≡ chosen
in_order chosen h = appended chosen [] fin.empty no_keys (none_precede chosen) h

unfoldable pub accounts_data : List ℕ → Items
accounts_data [] = no_items
accounts_data (account ∷ others) = item (string (decimal_of_width 12 account)) (accounts_data others)

pub accounts_read : (chosen : List ℕ) → of_items (accounts chosen) ≡ Some (accounts_data chosen)
unfolding accounts_data
accounts_read [] = refl
accounts_read (account ∷ others) = ap (λ read. option_map (item (string (decimal_of_width 12 account))) read) (accounts_read others)

pub accounts_said : (chosen : List ℕ) → AreBelow (10 ^ 12) chosen → kind.all_of kind.account_in (accounts_data chosen) ≡ Some chosen
unfolding accounts_data
accounts_said [] h = refl
accounts_said (account ∷ others) h =
    ap (λ said. option_and_then (λ x. option_map (λ xs. x ∷ xs) (kind.all_of kind.account_in (accounts_data others))) said) (account_whole (decimal_of_width 12 account) account h.0 refl)
    ∙ ap (λ said. option_map (λ xs. account ∷ xs) said) (accounts_said others h.1)

pub accounts_numbers : (chosen : List ℕ) → ItemsHaveNumbers (accounts chosen)
accounts_numbers [] = tt
accounts_numbers (account ∷ others) = (tt, accounts_numbers others)

pub accounts_depth : (chosen : List ℕ) → items_depth (accounts chosen) ≤ 1
accounts_depth [] = omega arith
accounts_depth (account ∷ others) = max-le (omega arith) (accounts_depth others)

pub accounts_texts : (chosen : List ℕ) → AreBelow (10 ^ 12) chosen → AreTexts (items_tokens (accounts chosen))
unfolding AreTexts
accounts_texts [] h = (IsUtf8-are_ascii (codes "]") refl, tt)
accounts_texts (account ∷ others) h =
    (IsUtf8-quoted (decimal_of_width 12 account) (plain_text (decimal_of_width 12 account) (piece_in_path (decimal_of_width 12 account) (account_piece account h.0))), accounts_texts others h.1)
