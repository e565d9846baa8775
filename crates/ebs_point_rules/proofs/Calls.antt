-- The calls that gave client tokens have a spelling.
use Rattle.std.proofs.Common.{◌≡◌, ℕ, ◌<◌, ◌≤◌, ◌^◌, arith, true, ◌==◌, nat_le, Option, Some, None, refl, sym, subst}
use Rattle.std.proofs.lemmas.Bool.Decides.{nat_tests}
use Rattle.std.specs.Option.{is_none}
use Rattle.std.specs.List.{list_all, AllByRecursion}
use Rattle.ebs_model.specs.declared.keys.Moment.{Moment}
use Rattle.ebs_model.specs.declared.request.Request.{Request}
use Rattle.ebs_model.specs.declared.request.Request.TheVariants.{StartSnapshot, CreateVolume}
use Rattle.ebs_model.specs.Limits.{is_size, is_size_given, is_sized, is_description, are_tags, is_timeout, is_client_token, is_token_given, bad_member, bad_start, bad_create}
use Rattle.ebs_records.specs.Fields.{IsLong, IsMoment, IsOptional}
use Rattle.ebs_records.specs.Calls.{IsAsked}
use Rattle.ebs_records.specs.Records.{HasSpelling, is_moment}
use Rattle.ebs_records.specs.declared.record.Record.{Record}
use Rattle.ebs_records.specs.declared.record.Record.TheVariants.{Accepted, Advance, Moved}
use Rattle.ebs_checkpoints.specs.declared.owned.AccountRow.{AccountRow}
use Rattle.ebs_checkpoints.specs.declared.owned.TokenPoint.{TokenPoint}
use Rattle.ebs_checkpoints.specs.Owned.{IsToken}
use Rattle.ebs_row_rules.specs.Limits.{is_call_within, is_record_within, is_token_within}
use Rattle.ebs_row_rules.specs.Owners.{is_use, is_first_use}
use Rattle.ebs_lawful.proofs.Members as members
use Rattle.ebs_lawful_points.proofs.Parts.{two, three, each-of, weaker, both}
use Rattle.ebs_point_rules.specs.Values.{HasMembers, HasCall, HasTokenValues}
use Rattle.ebs_point_rules.proofs.Texts.{description-text, token-text, token-given, tags-texts}

pub moment-long : (at : Moment) → is_moment at ≡ true → IsMoment at
moment-long at e = early at.second e
  where
    early : (n : ℕ) → nat_le n (2 ^ 36) ≡ true → n < 2 ^ 64
    early n e = grind (arith, nat_tests, e)

pub size-small : (size : ℕ) → is_size size ≡ true → size ≤ 16384
size-small size e = most size (two (nat_le 1 size) (nat_le size 16384) e).1
  where
    most : (n : ℕ) → nat_le n 16384 ≡ true → n ≤ 16384
    most n e = grind (arith, nat_tests, e)

pub timeout-small : (minutes : ℕ) → is_timeout minutes ≡ true → minutes ≤ 4320
timeout-small minutes e = most minutes (two (nat_le 10 minutes) (nat_le minutes 4320) e).1
  where
    most : (n : ℕ) → nat_le n 4320 ≡ true → n ≤ 4320
    most n e = grind (arith, nat_tests, e)

size-given : (size : Option ℕ) → is_size_given size ≡ true → IsOptional IsLong size
size-given None e = tt
size-given (Some size) e = let few = size-small size e in omega (arith, few)

asked : (a : AccountRow) (t : TokenPoint) (request : Request) → is_use a t request ≡ true → is_call_within request ≡ true → HasMembers request → IsAsked (request, None)
asked a t (StartSnapshot size parent description tags token timeout) used inside f =
    let limits = two (is_size size) (is_none (bad_member (StartSnapshot size parent description tags token timeout))) inside in
    let good = members.four (is_description description) (are_tags tags) (is_token_given token) (is_timeout timeout) _ _ _ _ (members.none_is (bad_start description tags token timeout) limits.1) in
    let few = size-small size limits.0 in
    let short = timeout-small timeout good.3 in
    record {
      given = _;
      is = refl;
      fit = (omega (arith, few), (f.0, (description-text description good.0 f.1.0, (tags-texts tags good.1 f.1.1.0, (token-given token good.2 f.1.1.1, omega (arith, short))))));
    }
asked a t (CreateVolume origin size tags token) used inside f =
    let limits = two (is_size_given size) (is_none (bad_member (CreateVolume origin size tags token))) inside in
    let good = members.three (is_sized origin size) (are_tags tags) (is_token_given token) _ _ _ (members.none_is (bad_create origin size tags token) limits.1) in
    record { given = _; is = refl; fit = (f.0, (size-given size limits.0, (tags-texts tags good.1 f.1.0, token-given token good.2 f.1.1))) }
asked a t request used inside f = absurd (cc)

recorded : (a : AccountRow) (t : TokenPoint) (r : Record) → is_first_use a t r ≡ true → is_record_within r ≡ true → HasCall r → HasSpelling r
recorded a t (Accepted call) used inside f =
    let limits = two (is_moment call.at) (is_call_within call.request) inside in
    let mine = three (call.at.second == t.at.second) (call.account == a.account) (is_use a t call.request) used in
    let is : IsAsked (call.request, None) = asked a t call.request mine.2 limits.1 f.1.1 in
    ((moment-long call.at limits.0, f.0), subst (λ (slot : Option ℕ). IsAsked (call.request, slot)) (sym f.1.0) is)
recorded a t (Advance at) used inside f = absurd (cc)
recorded a t (Moved transfer) used inside f = absurd (cc)

token-spelled : (a : AccountRow) (t : TokenPoint) → is_first_use a t t.first ≡ true → is_token_within t ≡ true → HasTokenValues t → IsToken t
token-spelled a t used inside f =
    let limits = three (is_client_token t.text) (is_moment t.at) (is_record_within t.first) inside in
    (token-text t.text limits.0 f.text, (moment-long t.at limits.1, (recorded a t t.first used limits.2 f.first, f.number)))

pub tokens-spelled : (a : AccountRow) → list_all (λ (t : TokenPoint). is_first_use a t t.first) a.tokens ≡ true → list_all is_token_within a.tokens ≡ true → AllByRecursion HasTokenValues a.tokens → AllByRecursion IsToken a.tokens
tokens-spelled a used inside f =
    weaker (λ (t : TokenPoint). ((is_first_use a t t.first ≡ true) × (is_token_within t ≡ true)) × HasTokenValues t) IsToken (λ t h. token-spelled a t h.0.0 h.0.1 h.1) a.tokens
    (both (λ (t : TokenPoint). (is_first_use a t t.first ≡ true) × (is_token_within t ≡ true)) HasTokenValues a.tokens
    (both (λ (t : TokenPoint). is_first_use a t t.first ≡ true) (λ (t : TokenPoint). is_token_within t ≡ true) a.tokens (each-of (λ (t : TokenPoint). is_first_use a t t.first) a.tokens used) (each-of is_token_within a.tokens inside)) f)
