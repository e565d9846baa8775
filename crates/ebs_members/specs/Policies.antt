-- The kinds of members of lifecycle policies, each as what it reads (Amazon Data Lifecycle Manager API reference, CreateRule and RetainRule).
use Rattle.std.specs.Prelude.{Option, List, ℕ, ◌==◌, ◌&&◌, Bool, length, get_or, nat_lt, ◌+◌, ◌*◌, Some, None, take, drop, if◌then◌else◌, codes}
use Rattle.std.specs.Option.{option_and_then, option_map}
use Rattle.std.specs.Str.{bytes_eq}
use Rattle.serde_json.specs.Data.{Items, no_items, item, Data}
use Rattle.serde_json.specs.Find.{as_array, as_str}
use Rattle.ebs_model.specs.declared.keys.PolicyKey.{PolicyKey}
use Rattle.ebs_model.specs.declared.tags.Tag.{Tag}
use Rattle.ebs_model.specs.declared.policy.Retain.{Retain}
use Rattle.ebs_model.specs.declared.policy.Retain.TheVariants as retain
use Rattle.ebs_model.specs.Limits.{are_targets, is_interval, is_retain}
use Rattle.ebs_model.specs.Readers.{policy_of, number_of}
use Rattle.ebs_members.specs.declared.policies.Schedule.{Schedule}
use Rattle.ebs_members.specs.declared.policies.Span.{Span}
use Rattle.ebs_members.specs.declared.policies.Span.TheVariants.{Days, Weeks, Months, Years, Snapshots}
use Rattle.ebs_members.specs.Sources.{Given, member}
use Rattle.ebs_members.specs.Kinds.{text_in, keep_if, json_in, all_of, tag_of, is_text, whole, text_at}

-- the id of a policy
abbrev pub policy : Given → Option PolicyKey
policy given = option_and_then policy_of (text_in given)

-- an array of 1 to 50 tags
abbrev pub targets : Given → Option (List Tag)
targets given = keep_if are_targets (option_and_then (all_of tag_of) (option_and_then as_array (json_in given)))

-- `HH:MM`
abbrev pub has_colon : List ℕ → Bool
has_colon text = (length text == 5) && (get_or text 2 0 == 58)

-- decimal digits that write a number below a bound
abbrev pub part_below : ℕ → List ℕ → Option ℕ
part_below bound text = keep_if (λ n. nat_lt n bound) (number_of text)

-- an hour and a minute in seconds
abbrev pub seconds_of : Option ℕ → Option ℕ → Option ℕ
seconds_of None minute = None
seconds_of (Some hour) minute = option_map (λ m. 3600 * hour + 60 * m) minute

abbrev pub time_of : List ℕ → Option ℕ
time_of text = if has_colon text then seconds_of (part_below 24 (take 2 text)) (part_below 60 (drop 3 text)) else None

-- an array of exactly one time
abbrev pub one_time : Items → Option ℕ
one_time no_items = None
one_time (item d no_items) = option_and_then time_of (as_str d)
one_time (item d (item e ds)) = None

abbrev pub time_in : Data → Option ℕ
time_in d = option_and_then one_time (option_and_then as_array (member (codes "Times") d))

abbrev pub hours_in : Data → Option ℕ
hours_in d = if is_text (codes "HOURS") (text_at (codes "IntervalUnit") d) then keep_if is_interval (option_and_then whole (member (codes "Interval") d)) else None

abbrev pub schedule_from : Option ℕ → Option ℕ → Option Schedule
schedule_from None at = None
schedule_from (Some hours) at = option_map (λ time. record { hours = hours; at = time }) at

-- `{"Interval", "IntervalUnit", "Times"}`: every so many hours, from one time of day
abbrev pub schedule_in : Data → Option Schedule
schedule_in d = schedule_from (hours_in d) (time_in d)

abbrev pub schedule : Given → Option Schedule
schedule given = option_and_then schedule_in (json_in given)

-- what a unit is called
abbrev pub span_of : List ℕ → Option Span
span_of text =
    if bytes_eq text (codes "DAYS") then Some Days
    else (if bytes_eq text (codes "WEEKS") then Some Weeks
    else (if bytes_eq text (codes "MONTHS") then Some Months
    else (if bytes_eq text (codes "YEARS") then Some Years else None)))

abbrev pub retain_of : Span → ℕ → Retain
retain_of Snapshots n = retain.Count n
retain_of Days n = retain.Days n
retain_of Weeks n = retain.Weeks n
retain_of Months n = retain.Months n
retain_of Years n = retain.Years n

abbrev pub retained : Span → Option ℕ → Option Retain
retained span number = keep_if is_retain (option_map (retain_of span) number)

-- so many snapshots, or so many of a unit, and not both
abbrev pub retain_from : Option Data → Option Data → Option Data → Option Retain
retain_from (Some count) None None = retained Snapshots (whole count)
retain_from None (Some n) (Some unit) = option_and_then (λ span. retained span (whole n)) (option_and_then span_of (as_str unit))
retain_from count n unit = None

-- `{"Count"}` or `{"Interval", "IntervalUnit"}`
abbrev pub retain_in : Data → Option Retain
retain_in d = retain_from (member (codes "Count") d) (member (codes "Interval") d) (member (codes "IntervalUnit") d)

abbrev pub retention : Given → Option Retain
retention given = option_and_then retain_in (json_in given)
