-- Policies: bodies, printed and read back.
use Rattle.std.proofs.Common.{◌≡◌, ℕ, ◌<◌, ◌≤◌, ◌^◌, Bool, true, cond, List, refl, ap, ap₂, ◌∙◌, arith, codes}
use Rattle.std.specs.declared.option.Option.{Option}
use Rattle.std.specs.declared.option.Option.TheVariants.{None, Some}
use Rattle.std.specs.declared.result.Result.TheVariants.{Ok}
use Rattle.std.specs.Option.{option_map, option_and_then}
use Rattle.std.specs.List.{AllByRecursion, list_all}
use Rattle.std.proofs.lemmas.Bool.{and_parts}
use Rattle.std.proofs.lemmas.Bool.Decides.{nat_tests}
use Rattle.json.specs.Json as json
use Rattle.json.proofs.Printed.Utf8.{IsUtf8-are_ascii, IsUtf8-quoted}
use Rattle.json.proofs.Printed.Decimals.{IsNumber-decimal}
use Rattle.serde_json.specs.Data.{Data, no_items, item, Members, no_members, put, string, array, object}
use Rattle.serde_json.specs.Read.{of_json}
use Rattle.ebs_model.specs.declared.tags.Tag.{Tag}
use Rattle.ebs_model.specs.declared.policy.Retain.{Retain}
use Rattle.ebs_model.specs.declared.policy.Retain.TheVariants as retain
use Rattle.ebs_model.specs.declared.request.Request.TheVariants.{CreatePolicy}
use Rattle.ebs_model.specs.Limits.{are_targets, are_tags, is_interval, is_time_of_day, is_schedule, is_retain}
use Rattle.ebs_members.specs.Sources.{given_json, in_body, body_of, Members as Sources, required, optional}
use Rattle.ebs_members.specs.Kinds as kind
use Rattle.ebs_members.specs.Policies as policy_kind
use Rattle.ebs_rest.specs.Calls as call
use Rattle.ebs_client.specs.Bodies.{text_of, tags, clock, scheduled, aged, retained, policy_created}
use Rattle.ebs_client.specs.Reach.{HasTexts}
use Rattle.ebs_client.proofs.Pieces.{is_path_byte}
use Rattle.ebs_client.proofs.Texts.{plain_text}
use Rattle.ebs_client.proofs.Times.{clock_read, clock_bytes}
use Rattle.ebs_client.proofs.Bodies.{AreTexts, num, number_text, number_read, open_text, close_text, key_text}
use Rattle.ebs_client.proofs.Tags.{tags_data, tags_said}
use Rattle.ebs_client.proofs.Objects as object_of
use Rattle.ebs_client.proofs.Objects.{IsShort, at, past}

-- when it runs
hours_width : (hours : ℕ) → is_interval hours ≡ true → hours < 2 ^ 64
hours_width hours h = let few : hours ≤ 24 = grind (arith, nat_tests) in omega arith

schedule_short : (hours time : ℕ) → is_interval hours ≡ true → is_time_of_day time ≡ true → IsShort (scheduled hours time)
unfolding AreTexts
schedule_short hours time h t =
    let wide = hours_width hours h in
    record {
      numbers = (IsNumber-decimal hours wide, (tt, ((tt, tt), tt)));
      shallow = omega arith;
      texts =
          (open_text, (key_text (codes "Interval") refl, (number_text hours wide, (key_text (codes "IntervalUnit") refl, (IsUtf8-quoted (codes "HOURS") (plain_text (codes "HOURS") refl), (key_text (codes "Times") refl, (IsUtf8-are_ascii (codes "[") refl, (IsUtf8-quoted (clock time) (plain_text (clock time) (clock_bytes time t)), (IsUtf8-are_ascii (codes "]") refl, (close_text, tt))))))))));
    }

abbrev times_data : ℕ → Data
times_data time = array (item (string (clock time)) no_items)

abbrev schedule_data : ℕ → ℕ → Data
schedule_data hours time = object (put (codes "Times") (times_data time) (put (codes "IntervalUnit") (string (codes "HOURS")) (put (codes "Interval") (num hours) no_members)))

schedule_read : (hours time : ℕ) → is_interval hours ≡ true → of_json (scheduled hours time) ≡ Some (schedule_data hours time)
schedule_read hours time h =
    ap (λ read. option_map object (option_and_then (λ d. Some (put (codes "Times") (times_data time) (put (codes "IntervalUnit") (string (codes "HOURS")) (put (codes "Interval") d no_members)))) read)) (number_read hours (hours_width hours h))

schedule_said : (hours time : ℕ) → is_interval hours ≡ true → is_time_of_day time ≡ true → policy_kind.schedule (given_json (schedule_data hours time)) ≡ Some (record { hours = hours; at = time })
schedule_said hours time h t = ap₂ (λ (b : Bool) (o : Option ℕ). policy_kind.schedule_from (cond b (Some hours) None) o) h (clock_read time t)

-- how long it retains
abbrev IsRetain : Retain → Type 0
IsRetain kept = is_retain kept ≡ true

aged_short : (n : ℕ) (unit : List ℕ) → list_all is_path_byte unit ≡ true → n < 2 ^ 64 → IsShort (aged n unit)
unfolding AreTexts
aged_short n unit plain wide =
    record {
      numbers = (IsNumber-decimal n wide, (tt, tt));
      shallow = omega arith;
      texts = (open_text, (key_text (codes "Interval") refl, (number_text n wide, (key_text (codes "IntervalUnit") refl, (IsUtf8-quoted unit (plain_text unit plain), (close_text, tt))))));
    }

count_short : (n : ℕ) → n < 2 ^ 64 → IsShort (retained (retain.Count n))
unfolding AreTexts
count_short n wide = record { numbers = (IsNumber-decimal n wide, tt); shallow = omega arith; texts = (open_text, (key_text (codes "Count") refl, (number_text n wide, (close_text, tt)))) }

abbrev number_in : Retain → ℕ
number_in (retain.Count n) = n
number_in (retain.Days n) = n
number_in (retain.Weeks n) = n
number_in (retain.Months n) = n
number_in (retain.Years n) = n

retain_width : (kept : Retain) → IsRetain kept → number_in kept < 2 ^ 64
retain_width (retain.Count n) h = let few : n ≤ 36500 = grind (arith, nat_tests) in omega arith
retain_width (retain.Days n) h = let few : n ≤ 36500 = grind (arith, nat_tests) in omega arith
retain_width (retain.Weeks n) h = let few : n ≤ 36500 = grind (arith, nat_tests) in omega arith
retain_width (retain.Months n) h = let few : n ≤ 36500 = grind (arith, nat_tests) in omega arith
retain_width (retain.Years n) h = let few : n ≤ 36500 = grind (arith, nat_tests) in omega arith

retain_short : (kept : Retain) → IsRetain kept → IsShort (retained kept)
retain_short (retain.Count n) h = count_short n (retain_width (retain.Count n) h)
retain_short (retain.Days n) h = aged_short n (codes "DAYS") refl (retain_width (retain.Days n) h)
retain_short (retain.Weeks n) h = aged_short n (codes "WEEKS") refl (retain_width (retain.Weeks n) h)
retain_short (retain.Months n) h = aged_short n (codes "MONTHS") refl (retain_width (retain.Months n) h)
retain_short (retain.Years n) h = aged_short n (codes "YEARS") refl (retain_width (retain.Years n) h)

abbrev aged_data : ℕ → List ℕ → Data
aged_data n unit = object (put (codes "IntervalUnit") (string unit) (put (codes "Interval") (num n) no_members))

abbrev retain_data : Retain → Data
retain_data (retain.Count n) = object (put (codes "Count") (num n) no_members)
retain_data (retain.Days n) = aged_data n (codes "DAYS")
retain_data (retain.Weeks n) = aged_data n (codes "WEEKS")
retain_data (retain.Months n) = aged_data n (codes "MONTHS")
retain_data (retain.Years n) = aged_data n (codes "YEARS")

aged_read : (n : ℕ) (unit : List ℕ) → n < 2 ^ 64 → of_json (aged n unit) ≡ Some (aged_data n unit)
aged_read n unit wide = ap (λ read. option_map object (option_and_then (λ d. Some (put (codes "IntervalUnit") (string unit) (put (codes "Interval") d no_members))) read)) (number_read n wide)

retain_read : (kept : Retain) → IsRetain kept → of_json (retained kept) ≡ Some (retain_data kept)
retain_read (retain.Count n) h = ap (λ read. option_map object (option_and_then (λ d. Some (put (codes "Count") d no_members)) read)) (number_read n (retain_width (retain.Count n) h))
retain_read (retain.Days n) h = aged_read n (codes "DAYS") (retain_width (retain.Days n) h)
retain_read (retain.Weeks n) h = aged_read n (codes "WEEKS") (retain_width (retain.Weeks n) h)
retain_read (retain.Months n) h = aged_read n (codes "MONTHS") (retain_width (retain.Months n) h)
retain_read (retain.Years n) h = aged_read n (codes "YEARS") (retain_width (retain.Years n) h)

retain_said : (kept : Retain) → IsRetain kept → policy_kind.retention (given_json (retain_data kept)) ≡ Some kept
retain_said (retain.Count n) h = ap (λ b. cond b (Some (retain.Count n)) None) h
retain_said (retain.Days n) h = ap (λ b. cond b (Some (retain.Days n)) None) h
retain_said (retain.Weeks n) h = ap (λ b. cond b (Some (retain.Weeks n)) None) h
retain_said (retain.Months n) h = ap (λ b. cond b (Some (retain.Months n)) None) h
retain_said (retain.Years n) h = ap (λ b. cond b (Some (retain.Years n)) None) h

-- whose volumes
targets_said : (targets : List Tag) → are_targets targets ≡ true → policy_kind.targets (given_json (array (tags_data targets))) ≡ Some targets
targets_said targets h = ap (kind.keep_if are_targets) (tags_said targets) ∙ ap (λ b. cond b (Some targets) None) h

-- the whole
abbrev of_targets : List Tag → Members
of_targets targets = put (codes "TargetTags") (array (tags_data targets)) no_members

abbrev of_schedule : List Tag → ℕ → ℕ → Members
of_schedule targets hours time = put (codes "Schedule") (schedule_data hours time) (of_targets targets)

abbrev of_retain : List Tag → ℕ → ℕ → Retain → Members
of_retain targets hours time kept = put (codes "RetainRule") (retain_data kept) (of_schedule targets hours time)

abbrev pub policy_data : List Tag → ℕ → ℕ → Retain → List Tag → Members
policy_data targets hours time kept add = put (codes "TagsToAdd") (array (tags_data add)) (of_retain targets hours time kept)

pub policy_body : (targets : List Tag) (hours time : ℕ) (kept : Retain) (add : List Tag) → AllByRecursion HasTexts targets → AllByRecursion HasTexts add → is_schedule hours time ≡ true → is_retain kept ≡ true
    → body_of (text_of (policy_created targets hours time kept add)) ≡ Some (object (policy_data targets hours time kept add))
policy_body targets hours time kept add texts added runs keeps =
    let both = and_parts _ _ runs in
    let adds = json.member (codes "TagsToAdd") (json.array (tags add)) json.no_members in
    let retains = json.member (codes "RetainRule") (retained kept) adds in
    let schedules = json.member (codes "Schedule") (scheduled hours time) retains in
    let fine_adds = object_of.fine_tags (codes "TagsToAdd") add json.no_members refl added object_of.fine_none in
    let fine_retains = object_of.fine_member (codes "RetainRule") (retained kept) adds refl (retain_short kept keeps) fine_adds in
    let fine_schedules = object_of.fine_member (codes "Schedule") (scheduled hours time) retains refl (schedule_short hours time both.0 both.1) fine_retains in
    object_of.whole_body (json.member (codes "TargetTags") (json.array (tags targets)) schedules) (policy_data targets hours time kept add) (object_of.fine_tags (codes "TargetTags") targets schedules refl texts fine_schedules)
    (object_of.read_tags (codes "TargetTags") targets schedules no_members
    ∙ object_of.read_member (codes "Schedule") (scheduled hours time) (schedule_data hours time) retains (of_targets targets) (schedule_read hours time both.0)
    ∙ object_of.read_member (codes "RetainRule") (retained kept) (retain_data kept) adds (of_schedule targets hours time) (retain_read kept keeps)
    ∙ object_of.read_tags (codes "TagsToAdd") add json.no_members (of_retain targets hours time kept))

made_read : (body : Sources) (targets : List Tag) (hours time : ℕ) (kept : Retain) (add : List Tag) → required body (codes "TargetTags") policy_kind.targets ≡ Ok targets
    → required body (codes "Schedule") policy_kind.schedule ≡ Ok (record { hours = hours; at = time }) → required body (codes "RetainRule") policy_kind.retention ≡ Ok kept → optional body (codes "TagsToAdd") kind.tags ≡ Ok (Some add)
    → call.policy_of body ≡ Ok (CreatePolicy targets hours time kept add)
made_read body targets hours time kept add e f g h = rw (e, f, g, h) refl

there_retain : (ms : Members) (kept : Retain) → IsRetain kept → object_of.Holds ms (codes "RetainRule") (Some (retain_data kept)) → required (in_body (object ms)) (codes "RetainRule") policy_kind.retention ≡ Ok kept
there_retain ms (retain.Count n) h found = object_of.required_member ms (codes "RetainRule") policy_kind.retention (retain_data (retain.Count n)) (retain.Count n) refl (retain_said (retain.Count n) h) found
there_retain ms (retain.Days n) h found = object_of.required_member ms (codes "RetainRule") policy_kind.retention (retain_data (retain.Days n)) (retain.Days n) refl (retain_said (retain.Days n) h) found
there_retain ms (retain.Weeks n) h found = object_of.required_member ms (codes "RetainRule") policy_kind.retention (retain_data (retain.Weeks n)) (retain.Weeks n) refl (retain_said (retain.Weeks n) h) found
there_retain ms (retain.Months n) h found = object_of.required_member ms (codes "RetainRule") policy_kind.retention (retain_data (retain.Months n)) (retain.Months n) refl (retain_said (retain.Months n) h) found
there_retain ms (retain.Years n) h found = object_of.required_member ms (codes "RetainRule") policy_kind.retention (retain_data (retain.Years n)) (retain.Years n) refl (retain_said (retain.Years n) h) found

pub policy_read : (targets : List Tag) (hours time : ℕ) (kept : Retain) (add : List Tag) → are_targets targets ≡ true → is_schedule hours time ≡ true → is_retain kept ≡ true → are_tags add ≡ true
    → call.policy_of (in_body (object (policy_data targets hours time kept add))) ≡ Ok (CreatePolicy targets hours time kept add)
policy_read targets hours time kept add good runs keeps adds =
    let both = and_parts _ _ runs in
    let ms = policy_data targets hours time kept add in
    let retains = of_retain targets hours time kept in
    let schedules = of_schedule targets hours time in
    let own = of_targets targets in
    let more = array (tags_data add) in
    made_read (in_body (object ms)) targets hours time kept add
    (object_of.required_member ms (codes "TargetTags") policy_kind.targets (array (tags_data targets)) targets refl (targets_said targets good)
    (past (codes "TargetTags") (codes "TagsToAdd") more retains _ refl (past (codes "TargetTags") (codes "RetainRule") (retain_data kept) schedules _ refl
    (past (codes "TargetTags") (codes "Schedule") (schedule_data hours time) own _ refl (at (codes "TargetTags") (array (tags_data targets)) no_members)))))
    (object_of.required_member ms (codes "Schedule") policy_kind.schedule (schedule_data hours time) (record { hours = hours; at = time }) refl (schedule_said hours time both.0 both.1)
    (past (codes "Schedule") (codes "TagsToAdd") more retains _ refl (past (codes "Schedule") (codes "RetainRule") (retain_data kept) schedules _ refl (at (codes "Schedule") (schedule_data hours time) own))))
    (there_retain ms kept keeps (past (codes "RetainRule") (codes "TagsToAdd") more retains _ refl (at (codes "RetainRule") (retain_data kept) schedules)))
    (object_of.tags_member ms (codes "TagsToAdd") add adds (at (codes "TagsToAdd") more retains))
