use Rattle.ebs_client.proofs.Reached.{is_reached, is_read, is_paged, is_shared, is_ruled, is_ruled_for_all, is_scheduled, is_aged}
use Rattle.ebs_client.proofs.laws.each_request_has_a_message.Goals as goal

pub returns : goal.returns
returns c = record { reached = is_reached; a_read = is_read; a_page = is_paged; a_share = is_shared; a_rule = is_ruled; a_rule_of_all = is_ruled_for_all; a_policy = is_scheduled; a_policy_by_age = is_aged }
