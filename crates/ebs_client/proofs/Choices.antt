-- A change of permissions: what is chosen, printed and read back.
use Rattle.std.proofs.Common.{◌≡◌, ℕ, Bool, true, false, cond, nat_le, List, [], length, refl, sym, ap, ◌∙◌, arith, codes}
use Rattle.std.specs.declared.option.Option.TheVariants.{None, Some}
use Rattle.std.specs.declared.result.Result.TheVariants.{Ok}
use Rattle.std.specs.Option.{option_map, option_and_then, unwrap_or}
use Rattle.std.specs.List.{list_all}
use Rattle.std.proofs.Math.Nat.{max-le}
use Rattle.std.proofs.lemmas.Bool.{and_parts}
use Rattle.json.specs.Json as json
use Rattle.json.specs.Tree.{items_tokens, members_tokens}
use Rattle.json.proofs.Printed.Utf8.{IsUtf8-are_ascii}
use Rattle.serde_json.specs.Data.{Data, Members, no_members, put, string, array, object}
use Rattle.serde_json.specs.Read.{of_json, of_members}
use Rattle.ebs_model.specs.declared.keys.SnapKey.{SnapKey}
use Rattle.ebs_model.specs.declared.request.Request.TheVariants.{ModifyPermission}
use Rattle.ebs_model.specs.Calls.Permission.{permitted}
use Rattle.ebs_model.specs.Limits.{are_accounts, bad_member}
use Rattle.ebs_model.specs.Refuse.{◌>>=◌}
use Rattle.ebs_members.specs.declared.kinds.Named.{Named}
use Rattle.ebs_members.specs.Sources.{given_json, present, in_body, body_of, Members as Sources, optional}
use Rattle.ebs_members.specs.Kinds as kind
use Rattle.ebs_rest.specs.Calls as call
use Rattle.ebs_client.specs.Bodies.{text_of, accounts, choice, shared}
use Rattle.ebs_client.specs.Reach.{IsChoice}
use Rattle.ebs_client.proofs.Pieces.{is_path_byte}
use Rattle.ebs_client.proofs.Texts.{plain_text}
use Rattle.ebs_client.proofs.Bodies.{AreTexts, key_text}
use Rattle.ebs_client.proofs.Tags.{texts_append}
use Rattle.ebs_client.proofs.Accounts.{in_order, accounts_data, accounts_read, accounts_said, accounts_numbers, accounts_depth, accounts_texts}
use Rattle.ebs_client.proofs.Objects.{IsFine, fine_none, fine_text, whole_body, Holds, shown, at, past}
use Rattle.ebs_client.proofs.Lines as line

abbrev pub choice_data : List ℕ → Bool → Data
choice_data chosen true = string (codes "all")
choice_data chosen false = array (accounts_data chosen)

fine_choice : (name : List ℕ) (chosen : List ℕ) (all : Bool) (ms : json.Members) → list_all is_path_byte name ≡ true → IsChoice chosen all → IsFine ms → IsFine (json.member name (choice chosen all) ms)
unfolding AreTexts
fine_choice name chosen true ms plain is fine = fine_text name (codes "all") ms plain (plain_text (codes "all") refl) fine
fine_choice name chosen false ms plain is fine =
    record {
      numbers = (accounts_numbers chosen, fine.numbers);
      shallow = max-le (omega (arith, accounts_depth chosen)) fine.shallow;
      texts = (key_text name plain, (IsUtf8-are_ascii (codes "[") refl, texts_append (items_tokens (accounts chosen)) (members_tokens ms) (accounts_texts chosen is) fine.texts));
    }

choice_read : (chosen : List ℕ) (all : Bool) → of_json (choice chosen all) ≡ Some (choice_data chosen all)
choice_read chosen true = refl
choice_read chosen false = ap (option_map array) (accounts_read chosen)

read_choice : (name chosen : List ℕ) (all : Bool) (rest : json.Members) (found : Members) → of_members (json.member name (choice chosen all) rest) found ≡ of_members rest (put name (choice_data chosen all) found)
read_choice name chosen all rest found = ap (λ read. option_and_then (λ d. of_members rest (put name d found)) read) (choice_read chosen all)

abbrev named : List ℕ → Bool → Named
named chosen all = record { accounts = chosen; all = all }

abbrev are_few : List ℕ → Bool
are_few chosen = nat_le (length chosen) 1000

-- what the reader holds of a list
abbrev held : List ℕ → Named
held chosen = named (permitted chosen [] []) false

choice_named : (chosen : List ℕ) (all : Bool) → IsChoice chosen all → are_accounts chosen ≡ true → kind.named (given_json (choice_data chosen all)) ≡ Some (named chosen all)
choice_named chosen true is good = ap (λ others. Some (named others true)) (sym is)
choice_named chosen false is good =
    let parts = and_parts _ _ good in
    ap (λ said. option_map held (kind.keep_if are_few said)) (accounts_said chosen is) ∙ ap (λ b. option_map held (cond b (Some chosen) None)) parts.0 ∙ ap (λ others. Some (named others false)) (in_order chosen parts.1)

presented : (chosen : List ℕ) (all : Bool) → present (choice_data chosen all) ≡ Some (choice_data chosen all)
presented chosen true = refl
presented chosen false = refl

choice_member : (ms : Members) (name chosen : List ℕ) (all : Bool) → IsChoice chosen all → are_accounts chosen ≡ true → Holds ms name (Some (choice_data chosen all)) → optional (in_body (object ms)) name kind.named ≡ Ok (Some (named chosen all))
choice_member ms name chosen all is good h =
    line.stands (in_body (object ms)) name kind.named (given_json (choice_data chosen all)) (named chosen all)
    (shown ms name (Some (choice_data chosen all)) h ∙ ap (option_map given_json) (presented chosen all)) (choice_named chosen all is good)

abbrev of_add : List ℕ → Bool → Members
of_add add add_all = put (codes "Add") (choice_data add add_all) no_members

abbrev pub shared_data : List ℕ → Bool → List ℕ → Bool → Members
shared_data add add_all remove remove_all = put (codes "Remove") (choice_data remove remove_all) (of_add add add_all)

pub shared_body : (add : List ℕ) (add_all : Bool) (remove : List ℕ) (remove_all : Bool) → IsChoice add add_all → IsChoice remove remove_all → body_of (text_of (shared add add_all remove remove_all)) ≡ Some (object (shared_data add add_all remove remove_all))
shared_body add add_all remove remove_all adds removes =
    let last = json.member (codes "Remove") (choice remove remove_all) json.no_members in
    whole_body (json.member (codes "Add") (choice add add_all) last) (shared_data add add_all remove remove_all)
    (fine_choice (codes "Add") add add_all last refl adds (fine_choice (codes "Remove") remove remove_all json.no_members refl removes fine_none))
    (read_choice (codes "Add") add add_all last no_members ∙ read_choice (codes "Remove") remove remove_all json.no_members (of_add add add_all))

permission_read : (body : Sources) (key : SnapKey) (add : List ℕ) (add_all : Bool) (remove : List ℕ) (remove_all : Bool) → optional body (codes "Add") kind.named ≡ Ok (Some (named add add_all))
    → optional body (codes "Remove") kind.named ≡ Ok (Some (named remove remove_all)) → bad_member (ModifyPermission key add add_all remove remove_all) ≡ None
    → call.permission_of key body ≡ Ok (ModifyPermission key add add_all remove remove_all)
permission_read body key add add_all remove remove_all e f good =
    ap (λ a. a >>= (λ add. optional body (codes "Remove") kind.named >>= (λ remove. call.limited (call.permission key (unwrap_or add kind.nobody) (unwrap_or remove kind.nobody))))) e
    ∙ ap (λ r. r >>= (λ remove. call.limited (call.permission key (named add add_all) (unwrap_or remove kind.nobody)))) f
    ∙ ap (call.limited_by (ModifyPermission key add add_all remove remove_all)) good

pub shared_read : (key : SnapKey) (add : List ℕ) (add_all : Bool) (remove : List ℕ) (remove_all : Bool) → IsChoice add add_all → IsChoice remove remove_all → are_accounts add ≡ true → are_accounts remove ≡ true
    → bad_member (ModifyPermission key add add_all remove remove_all) ≡ None → call.permission_of key (in_body (object (shared_data add add_all remove remove_all))) ≡ Ok (ModifyPermission key add add_all remove remove_all)
shared_read key add add_all remove remove_all adds removes few few_out good =
    let ms = shared_data add add_all remove remove_all in
    let first = of_add add add_all in
    permission_read (in_body (object ms)) key add add_all remove remove_all
    (choice_member ms (codes "Add") add add_all adds few (past (codes "Add") (codes "Remove") (choice_data remove remove_all) first _ refl (at (codes "Add") (choice_data add add_all) no_members)))
    (choice_member ms (codes "Remove") remove remove_all removes few_out (at (codes "Remove") (choice_data remove remove_all) first)) good
