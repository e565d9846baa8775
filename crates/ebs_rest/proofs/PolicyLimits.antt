-- What the members of a lifecycle policy that were read are held to.
use Rattle.std.proofs.Common.{◌≡◌, ℕ, ◌+◌, ◌*◌, ◌<◌, Bool, true, false, List, Option, Some, None, refl, ap, subst, if◌then◌else◌, arith, codes, nat_lt}
use Rattle.std.proofs.lemmas.Bool.{and_from, ltb-true}
use Rattle.std.proofs.lemmas.Bool.Decides.{nat_tests}
use Rattle.std.specs.declared.result.Result.TheVariants.{Ok}
use Rattle.std.specs.Prelude.{take, drop}
use Rattle.std.specs.Option.{option_map, option_and_then}
use Rattle.serde_json.specs.Data.{Data, Items, no_items, item}
use Rattle.serde_json.specs.Find.{as_str, as_array}
use Rattle.ebs_model.specs.declared.tags.Tag.{Tag}
use Rattle.ebs_model.specs.declared.policy.Retain.{Retain}
use Rattle.ebs_model.specs.Limits.{are_targets, is_interval, is_time_of_day, is_schedule, is_retain}
use Rattle.ebs_model.specs.Readers.{number_of}
use Rattle.ebs_members.specs.declared.policies.Schedule.{Schedule}
use Rattle.ebs_members.specs.declared.policies.Span.{Span}
use Rattle.ebs_members.specs.declared.policies.Span.TheVariants.{Snapshots}
use Rattle.ebs_members.specs.Sources.{need, Given, member}
use Rattle.ebs_members.specs.Kinds.{keep_if, json_in, is_text, text_at, whole, all_of, tag_of}
use Rattle.ebs_members.specs.Policies.{targets, part_below, seconds_of, time_of, has_colon, hours_in, time_in, one_time, schedule_from, schedule_in, schedule, span_of, retain_of, retained, retain_from, retain_in, retention}
use Rattle.ebs_rest.proofs.LimitLaws.{needed, kept}

-- what holds of each value that is read holds of the one that was
then_is : {A B : Type 0} (P : B → Type 0) (f : A → Option B) (o : Option A) (y : B) → ((x : A) (z : B) → f x ≡ Some z → P z) → option_and_then f o ≡ Some y → P y
then_is P f None y each h = cc
then_is P f (Some x) y each h = each x y h

targets_are : (g : Given) (tags : List Tag) → targets g ≡ Some tags → are_targets tags ≡ true
targets_are g tags h = kept are_targets (option_and_then (all_of tag_of) (option_and_then as_array (json_in g))) tags h

pub targets_needed : (name : List ℕ) (found : Option Given) (tags : List Tag) → need name (option_and_then targets found) ≡ Ok tags → are_targets tags ≡ true
targets_needed name found tags h = then_is (λ t. are_targets t ≡ true) targets found tags targets_are (needed name _ tags h)

-- a minute of the day
clock : (hour minute : ℕ) → hour < 24 → minute < 60 → is_time_of_day (3600 * hour + 60 * minute) ≡ true
clock hour minute h m = grind (arith, nat_tests)

below : (bound : ℕ) (text : List ℕ) (n : ℕ) → part_below bound text ≡ Some n → n < bound
below bound text n h = ltb-true n bound (kept (λ k. nat_lt k bound) (number_of text) n h)

seconds_are : (hour minute : Option ℕ) (t : ℕ) → ((n : ℕ) → hour ≡ Some n → n < 24) → ((n : ℕ) → minute ≡ Some n → n < 60) → seconds_of hour minute ≡ Some t → is_time_of_day t ≡ true
seconds_are None minute t p q h = cc
seconds_are (Some x) None t p q h = cc
seconds_are (Some x) (Some y) t p q h = let e : 3600 * x + 60 * y ≡ t = cc in subst (λ s. is_time_of_day s ≡ true) e (clock x y (p x refl) (q y refl))

timed : (holds : Bool) (hour minute : Option ℕ) (t : ℕ) → ((n : ℕ) → hour ≡ Some n → n < 24) → ((n : ℕ) → minute ≡ Some n → n < 60)
    → (if holds then seconds_of hour minute else None) ≡ Some t → is_time_of_day t ≡ true
timed true hour minute t p q h = seconds_are hour minute t p q h
timed false hour minute t p q h = cc

time_is : (text : List ℕ) (t : ℕ) → time_of text ≡ Some t → is_time_of_day t ≡ true
time_is text t h = timed (has_colon text) (part_below 24 (take 2 text)) (part_below 60 (drop 3 text)) t (below 24 (take 2 text)) (below 60 (drop 3 text)) h

one_is : (items : Items) (t : ℕ) → one_time items ≡ Some t → is_time_of_day t ≡ true
one_is no_items t h = cc
one_is (item d no_items) t h = then_is (λ s. is_time_of_day s ≡ true) time_of (as_str d) t time_is h
one_is (item d (item e ds)) t h = cc

hours_are : (holds : Bool) (o : Option ℕ) (n : ℕ) → (if holds then keep_if is_interval o else None) ≡ Some n → is_interval n ≡ true
hours_are true o n h = kept is_interval o n h
hours_are false o n h = cc

scheduled : (hours at : Option ℕ) (s : Schedule) → schedule_from hours at ≡ Some s → (hours ≡ Some s.hours) × (at ≡ Some s.at)
scheduled None at s h = cc
scheduled (Some n) None s h = cc
scheduled (Some n) (Some t) s h =
    let whole : Schedule = record { hours = n; at = t } in
    let e : whole ≡ s = cc in
    (ap (λ (x : Schedule). Some x.hours) e, ap (λ (x : Schedule). Some x.at) e)

schedule_is : (d : Data) (s : Schedule) → schedule_in d ≡ Some s → is_schedule s.hours s.at ≡ true
schedule_is d s h =
    let both = scheduled (hours_in d) (time_in d) s h in
    and_from _ _ (hours_are (is_text (codes "HOURS") (text_at (codes "IntervalUnit") d)) (option_and_then whole (member (codes "Interval") d)) s.hours both.0)
    (then_is (λ t. is_time_of_day t ≡ true) one_time (option_and_then as_array (member (codes "Times") d)) s.at one_is both.1)

pub schedule_needed : (name : List ℕ) (found : Option Given) (s : Schedule) → need name (option_and_then schedule found) ≡ Ok s → is_schedule s.hours s.at ≡ true
schedule_needed name found s h =
    then_is (λ x. is_schedule x.hours x.at ≡ true) schedule found s (λ g x e. then_is (λ y. is_schedule y.hours y.at ≡ true) schedule_in (json_in g) x schedule_is e) (needed name _ s h)

spanned : (span : Option Span) (number : Option ℕ) (r : Retain) → option_and_then (λ s. retained s number) span ≡ Some r → is_retain r ≡ true
spanned None number r h = cc
spanned (Some s) number r h = kept is_retain (option_map (retain_of s) number) r h

from_is : (count number unit : Option Data) (r : Retain) → retain_from count number unit ≡ Some r → is_retain r ≡ true
from_is (Some c) None None r h = kept is_retain (option_map (retain_of Snapshots) (whole c)) r h
from_is (Some c) None (Some u) r h = cc
from_is (Some c) (Some n) unit r h = cc
from_is None (Some n) (Some u) r h = spanned (option_and_then span_of (as_str u)) (whole n) r h
from_is None (Some n) None r h = cc
from_is None None unit r h = cc

retain_is : (d : Data) (r : Retain) → retain_in d ≡ Some r → is_retain r ≡ true
retain_is d r h = from_is (member (codes "Count") d) (member (codes "Interval") d) (member (codes "IntervalUnit") d) r h

pub retain_needed : (name : List ℕ) (found : Option Given) (r : Retain) → need name (option_and_then retention found) ≡ Ok r → is_retain r ≡ true
retain_needed name found r h =
    then_is (λ x. is_retain x ≡ true) retention found r (λ g x e. then_is (λ y. is_retain y ≡ true) retain_in (json_in g) x retain_is e) (needed name _ r h)
