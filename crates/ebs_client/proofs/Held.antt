-- A change of permissions that is read from a message is within its limits and held.
use Rattle.std.proofs.Common.{◌≡◌, ℕ, ◌<◌, ◌^◌, Bool, true, false, ◌&&◌, ◌==◌, nat_lt, nat_le, nat_eq, List, [], ◌∷◌, length, take, drop, refl, sym, subst, arith, codes, IfSome, if◌then◌else◌}
use Rattle.std.specs.declared.option.Option.{Option}
use Rattle.std.specs.declared.option.Option.TheVariants.{None, Some}
use Rattle.std.specs.declared.result.Result.{Result}
use Rattle.std.specs.declared.result.Result.TheVariants.{Ok, Err}
use Rattle.std.specs.Option.{option_map, option_and_then, unwrap_or}
use Rattle.std.specs.List.{list_all, starts_with}
use Rattle.std.specs.Char.{is_ascii_digit}
use Rattle.std.specs.Str.Parse.{digits_value}
use Rattle.std.specs.Ordering.{nat_cmp}
use Rattle.std.specs.declared.cmp.Ordering.TheVariants.{Less, Equal, Greater}
use Rattle.std.specs.Cmp.{nat_cmp_total}
use Rattle.std.specs.FinMap as fin
use Rattle.std.specs.FinMap.{entries-insert}
use Rattle.std.specs.FinMap.Entries.{put, by_order}
use Rattle.std.proofs.lemmas.Bool.Decides.{nat_tests}
use Rattle.serde_json.specs.Data.{Items, no_items, item}
use Rattle.serde_json.specs.Find.{as_str, as_array}
use Rattle.ebs_http.specs.declared.message.Message.{Message}
use Rattle.ebs_model.specs.declared.keys.SnapKey.{SnapKey}
use Rattle.ebs_model.specs.declared.request.Request.{Request}
use Rattle.ebs_model.specs.declared.request.Request.TheVariants.{ModifyPermission}
use Rattle.ebs_model.specs.declared.request.Call.{Call}
use Rattle.ebs_model.specs.declared.answer.Refusal.{Refusal}
use Rattle.ebs_model.specs.Readers.{are_key_digits, key_within, key_of, snap_of, account_of}
use Rattle.ebs_model.specs.Limits.{bad_member}
use Rattle.ebs_model.specs.declared.answer.Refusal.TheVariants.{NoSuchCall}
use Rattle.ebs_model.specs.Refuse.{◌>>=◌, ◌>>◌, some_or}
use Rattle.ebs_model.specs.Calls.Permission.{AccountSet, with_all, permitted}
use Rattle.ebs_model.proofs.Radix.{value_below}
use Rattle.ebs_model.proofs.IdDigits.{decimal_digits}
use Rattle.ebs_model.proofs.ReaderLaws.{snap_spelled, spelled_below}
use Rattle.ebs_members.specs.declared.kinds.Named.{Named}
use Rattle.ebs_members.specs.Sources.{Given, Members, path_of, in_path, in_fields, in_body, body_of, need, required, optional, if_any}
use Rattle.ebs_members.specs.Kinds as kind
use Rattle.ebs_rest.specs.declared.table.Operation.{Operation}
use Rattle.ebs_rest.specs.declared.table.Operation.TheVariants as operation
use Rattle.ebs_rest.specs.Calls as call
use Rattle.ebs_rest.specs.CallOf.{route_of, operation_at, request_of, call_of}
use Rattle.ebs_client.specs.Reach.{IsSnapshot, IsChoice, IsHeld, AreChangesHeld}
use Rattle.ebs_client.proofs.Accounts.{AreBelow, Listed, those, no_keys}

-- what holds of a value that is read
bound : {A B : Type 0} (Q : B → Type 0) (reads : A → Option B) → ((a : A) → IfSome (reads a) Q) → (found : Option A) → IfSome (option_and_then reads found) Q
bound Q reads h None = tt
bound Q reads h (Some a) = h a

guarded : {A : Type 0} (Q : A → Type 0) (test : Bool) (found : Option A) → (test ≡ true → IfSome found Q) → IfSome (if test then found else None) Q
guarded Q true found h = h refl
guarded Q false found h = tt

both : {A : Type 0} (P Q : A → Type 0) (found : Option A) → IfSome found P → IfSome found Q → IfSome found (λ x. P x × Q x)
both P Q None h k = tt
both P Q (Some x) h k = (h, k)

-- an account's number has twelve digits
abbrev IsAccount : ℕ → Type 0
IsAccount account = account < 10 ^ 12

twelve_digits : (text : List ℕ) → ((length text == 12) && list_all is_ascii_digit text) ≡ true → IsAccount (digits_value 10 text)
twelve_digits text h =
    let size : length text ≡ 12 = grind arith in
    let all : list_all is_ascii_digit text ≡ true = grind arith in
    let below : digits_value 10 text < 10 ^ length text = value_below 10 is_ascii_digit text decimal_digits all in
    rw size at below

account_held : (text : List ℕ) → IfSome (account_of text) IsAccount
account_held text = guarded IsAccount ((length text == 12) && list_all is_ascii_digit text) (Some (digits_value 10 text)) (twelve_digits text)

passes_below : (account : ℕ) → nat_lt account (10 ^ 12) ≡ true → IsAccount account
passes_below account h = grind (arith, nat_tests)

key_low : (ds : List ℕ) → IfSome (key_of ds) (λ key. IsAccount key.account)
key_low ds =
    let account = digits_value 16 (take 10 ds) in
    let number = digits_value 16 (drop 10 ds) in
    guarded (λ key. IsAccount key.account) (are_key_digits ds) (key_within account number)
    (λ digits. guarded (λ key. IsAccount key.account) (nat_lt account (10 ^ 12)) (Some (record { account = account; number = number })) (passes_below account))

snap_held : (text : List ℕ) → IfSome (snap_of text) IsSnapshot
snap_held text =
    both (λ key. IsAccount key.account) (λ key. key.number < 2 ^ 28) (snap_of text)
    (guarded (λ key. IsAccount key.account) (starts_with nat_eq text (codes "snap-")) (key_of (drop 5 text)) (λ begins. key_low (drop 5 text))) (spelled_below (snap_of text) text (snap_spelled text))

-- accounts that are put in order are the same ones
placed : (limit account : ℕ) (listed : Listed) → account < limit → AreBelow limit (those listed) → AreBelow limit (those (put nat_cmp account tt listed))
placed limit account [] low h = (low, tt)
placed limit account (e ∷ listed) low h =
    elim (nat_cmp account e.0) as (λ order. AreBelow limit (those (by_order order ((account, tt) ∷ e ∷ listed) ((e.0, tt) ∷ listed) (e ∷ put nat_cmp account tt listed)))) [
      | Less ↦ (low, h)
      | Equal ↦ h
      | Greater ↦ (h.0, placed limit account listed low h.1)
    ]

all_placed : (limit : ℕ) (chosen : List ℕ) (set : AccountSet) → AreBelow limit chosen → AreBelow limit (fin.keys set) → AreBelow limit (fin.keys (with_all chosen set))
all_placed limit [] set low h = h
all_placed limit (account ∷ others) set low h =
    all_placed limit others (fin.insert set account tt) low.1 (subst (λ listed. AreBelow limit (those listed)) (sym (entries-insert nat_cmp_total set account tt)) (placed limit account (fin.entries set) low.0 h))

ordered : (limit : ℕ) (chosen : List ℕ) → AreBelow limit chosen → AreBelow limit (permitted chosen [] [])
ordered limit chosen low = all_placed limit chosen fin.empty low (subst (AreBelow limit) (sym no_keys) tt)

-- who is named
abbrev IsNamed : Named → Type 0
IsNamed named = IsChoice named.accounts named.all

one_more : (first : Option ℕ) (others : Option (List ℕ)) → IfSome first IsAccount → IfSome others (AreBelow (10 ^ 12)) → IfSome (option_and_then (λ x. option_map (λ xs. x ∷ xs) others) first) (AreBelow (10 ^ 12))
one_more None others h k = tt
one_more (Some x) None h k = tt
one_more (Some x) (Some xs) h k = (h, k)

items_held : (items : Items) → IfSome (kind.all_of kind.account_in items) (AreBelow (10 ^ 12))
items_held no_items = tt
items_held (item d ds) = one_more (kind.account_in d) (kind.all_of kind.account_in ds) (bound IsAccount account_of account_held (as_str d)) (items_held ds)

abbrev held : List ℕ → Named
held chosen = record { accounts = permitted chosen [] []; all = false }

kept_held : (few : Bool) (chosen : List ℕ) → AreBelow (10 ^ 12) chosen → IfSome (option_map held (if few then Some chosen else None)) IsNamed
kept_held true chosen low = ordered (10 ^ 12) chosen low
kept_held false chosen low = tt

list_held : (found : Option (List ℕ)) → IfSome found (AreBelow (10 ^ 12)) → IfSome (option_map held (kind.keep_if (λ chosen. nat_le (length chosen) 1000) found)) IsNamed
list_held None h = tt
list_held (Some chosen) h = kept_held (nat_le (length chosen) 1000) chosen h

choice_held : (items : Option Items) (is_all : Bool) → IfSome (kind.named_in items is_all) IsNamed
choice_held None true = refl
choice_held None false = tt
choice_held (Some items) is_all = list_held (kind.all_of kind.account_in items) (items_held items)

named_held : (given : Given) → IfSome (kind.named given) IsNamed
named_held given = choice_held (option_and_then as_array (kind.json_in given)) (kind.is_text (codes "all") (kind.text_in given))

or_nobody : (found : Option Named) → IfSome found IsNamed → IsNamed (unwrap_or found kind.nobody)
or_nobody None h = tt
or_nobody (Some named) h = h

-- what holds of a line's value where it isn't refused
data IfDone {A : Type 0} (P : A → Type 0) : Result A Refusal → Type 0 where
  achieved : {x : A} → P x → IfDone P (Ok x)
  refused : {r : Refusal} → IfDone P (Err r)

done_is : {A : Type 0} (P : A → Type 0) (read : Result A Refusal) (x : A) → IfDone P read → read ≡ Ok x → P x
done_is P (Ok y) x (achieved h) e = let same : y ≡ x = cc in subst P same h
done_is P (Err r) x refused e = cc

next : {A B : Type 0} (Q : A → Type 0) (P : B → Type 0) (line : Result A Refusal) (rest : A → Result B Refusal) → IfDone Q line → ((a : A) → Q a → IfDone P (rest a)) → IfDone P (line >>= rest)
next Q P (Ok a) rest (achieved h) k = k a h
next Q P (Err r) rest refused k = refused

past : {A B : Type 0} (P : B → Type 0) (line : Result A Refusal) (rest : A → Result B Refusal) → ((a : A) → IfDone P (rest a)) → IfDone P (line >>= rest)
past P (Ok a) rest k = k a
past P (Err r) rest k = refused

past_test : {B : Type 0} (P : B → Type 0) (line : Result (Unit {0}) Refusal) (rest : Result B Refusal) → IfDone P rest → IfDone P (line >> rest)
past_test P (Ok u) rest k = k
past_test P (Err r) rest k = refused

needed : {A : Type 0} (Q : A → Type 0) (name : List ℕ) (found : Option A) → IfSome found Q → IfDone Q (need name found)
needed Q name None h = refused
needed Q name (Some x) h = achieved h

required_held : {A : Type 0} (Q : A → Type 0) (source : Members) (name : List ℕ) (reads : Given → Option A) → ((given : Given) → IfSome (reads given) Q) → IfDone Q (required source name reads)
required_held Q source name reads h = needed Q name (option_and_then reads (source name)) (bound Q reads h (source name))

some_held : {A : Type 0} (Q : A → Type 0) (found : Option A) → IfSome found Q → IfSome (option_map Some found) (λ any. IfSome any Q)
some_held Q None h = tt
some_held Q (Some x) h = h

any_held : {A : Type 0} (Q : A → Type 0) (reads : Given → Option A) → ((given : Given) → IfSome (reads given) Q) → (found : Option Given) → IfSome (if_any reads found) (λ any. IfSome any Q)
any_held Q reads h None = tt
any_held Q reads h (Some given) = some_held Q (reads given) (h given)

optional_held : {A : Type 0} (Q : A → Type 0) (source : Members) (name : List ℕ) (reads : Given → Option A) → ((given : Given) → IfSome (reads given) Q) → IfDone (λ any. IfSome any Q) (optional source name reads)
optional_held Q source name reads h = needed (λ any. IfSome any Q) name (if_any reads (source name)) (any_held Q reads h (source name))

-- of a change of permissions alone
abbrev Meets : Request → Type 0
Meets (ModifyPermission key add add_all remove remove_all) = (bad_member (ModifyPermission key add add_all remove remove_all) ≡ None) × IsHeld (ModifyPermission key add add_all remove remove_all)
Meets request = Unit {0}

limited : (request : Request) → (bad_member request ≡ None → Meets request) → IfDone Meets (call.limited request)
limited request h = by (bad_member request) refl
  where
    by : (bad : Option (List ℕ)) → bad_member request ≡ bad → IfDone Meets (call.limited_by request bad)
    by None e = achieved (h e)
    by (Some name) e = refused

shares : (path : Members) (bytes : List ℕ) → IfDone Meets (call.modify_permission path bytes)
shares path bytes =
    next IsSnapshot Meets _ _ (required_held IsSnapshot path (codes "snapshotId") kind.snapshot (λ given. bound IsSnapshot snap_of snap_held (kind.text_in given))) (λ key is. past Meets (need (codes "body") (body_of bytes)) _ (λ body.
    next (λ any. IfSome any IsNamed) Meets _ _ (optional_held IsNamed (in_body body) (codes "Add") kind.named named_held) (λ add adds.
    next (λ any. IfSome any IsNamed) Meets _ _ (optional_held IsNamed (in_body body) (codes "Remove") kind.named named_held) (λ remove removes.
    limited (call.permission key (unwrap_or add kind.nobody) (unwrap_or remove kind.nobody)) (λ good. (good, (is, or_nobody add adds, or_nobody remove removes)))))))

restores : (key : SnapKey) (days : Option ℕ) (for_good : Bool) → IfDone Meets (call.one_restore key days for_good)
restores key None false = refused
restores key (Some days) false = achieved tt
restores key None true = achieved tt
restores key (Some days) true = refused

-- the other calls change none
asks : (of : Operation) (route : List ℕ) (message : Message) → IfDone Meets (request_of of route message)
asks operation.ModifyPermission route message = shares (in_path route (path_of message.target)) message.body
asks of route message = search (past, past_test, restores, achieved) depth 12

abbrev CallMeets : Call → Type 0
CallMeets call = IsAccount call.account × Meets call.request

called : (message : Message) → IfDone CallMeets (call_of message)
unfolding call_of
called message =
    past CallMeets (some_or (route_of (path_of message.target)) NoSuchCall) _ (λ route. past CallMeets (operation_at message.method route) _ (λ of.
    next IsAccount CallMeets _ _ (required_held IsAccount (in_fields message.headers) (codes "x-ebs-account") kind.account (λ given. bound IsAccount account_of account_held (kind.text_in given))) (λ account small.
    next Meets CallMeets _ _ (asks of route message) (λ request meets. achieved (small, meets)))))

pub are_changes_held : AreChangesHeld
are_changes_held message account key add add_all remove remove_all e =
    let request = ModifyPermission key add add_all remove remove_all in
    let h = done_is CallMeets (call_of message) (record { account = account; request = request }) (called message) e in
    (h.0, h.1.0, h.1.1)
