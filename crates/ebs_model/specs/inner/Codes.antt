-- How a machine is told from another: each record as the pairs of its fields.
use Rattle.std.specs.Prelude.{ℕ, List, refl}
use Rattle.std.specs.Coded.{Coded, code_by, coded×, coded_ℕ, coded_list}
use Rattle.std.specs.Ordering.{nat_cmp}
use Rattle.std.specs.FinMap as map
use Rattle.ebs_model.specs.declared.keys.Moment.{Moment}
use Rattle.ebs_model.specs.declared.rows.SnapRow.{SnapRow}
use Rattle.ebs_model.specs.declared.rows.Own.{Own}
use Rattle.ebs_model.specs.declared.rows.TokenRow.{TokenRow}
use Rattle.ebs_model.specs.declared.rows.VolRow.{VolRow}
use Rattle.ebs_model.specs.contracts.keys.SnapKey as key
use Rattle.ebs_model.specs.contracts.keys.TokenKey as token_key
use Rattle.ebs_model.specs.contracts.keys.VolKey as vol_key
use Rattle.ebs_model.specs.contracts.keys.Moment as moment
use Rattle.ebs_model.specs.contracts.rows.SnapRow as row
use Rattle.ebs_model.specs.contracts.rows.Own as own
use Rattle.ebs_model.specs.contracts.rows.TokenRow as token
use Rattle.ebs_model.specs.contracts.rows.VolRow as vol
use Rattle.ebs_model.specs.contracts.keys.PolicyKey as policy_key
use Rattle.ebs_model.specs.Keys.{snap_cmp, vol_cmp, policy_cmp, token_cmp}
use Rattle.ebs_model.specs.Arrays.{WholeBlock, WholeArray}
use Rattle.ebs_model.specs.Time.{Snapshot}
use Rattle.ebs_model.specs.declared.rules.Rule.{Rule}
use Rattle.ebs_model.specs.contracts.rules.Rule as rule
use Rattle.ebs_model.specs.declared.policy.Policy.{Policy}
use Rattle.ebs_model.specs.contracts.policy.Policy as policy
use Rattle.ebs_model.specs.Rules.{Book}
use Rattle.ebs_model.specs.Machine.{Machine}

abbrev pub whole_block_code : Coded WholeBlock
whole_block_code = code_by (ℕ × List ℕ) (coded× coded_ℕ (coded_list coded_ℕ)) (λ b. (b.stamp, b.bytes)) (λ p. record { stamp = p.0; bytes = p.1 }) (λ _. refl)

abbrev pub snapshot_code : Coded Snapshot
snapshot_code = code_by (SnapRow × WholeArray) (coded× row.the_row.coded (map.code coded_ℕ whole_block_code)) (λ s. (s.row, s.array)) (λ p. record { row = p.0; array = p.1 }) (λ _. refl)

abbrev pub book_code : Coded Book
book_code = code_by (map.FinMap nat_cmp Rule × ℕ) (coded× (map.code coded_ℕ rule.the_row.coded) coded_ℕ) (λ b. (b.rules, b.next)) (λ p. record { rules = p.0; next = p.1 }) (λ _. refl)

abbrev pub machine_code : Coded Machine
machine_code = code_by (Moment × ((ℕ × ℕ) × (List ℕ × (map.FinMap snap_cmp Snapshot × (map.FinMap nat_cmp Own × (map.FinMap token_cmp TokenRow × (map.FinMap vol_cmp VolRow × (map.FinMap vol_cmp WholeArray × (map.FinMap nat_cmp Book × map.FinMap policy_cmp Policy)))))))))
    (coded× moment.the_row.coded (coded× (coded× coded_ℕ coded_ℕ) (coded× (coded_list coded_ℕ) (coded× (map.code key.the_row.coded snapshot_code) (coded× (map.code coded_ℕ own.the_row.coded) (coded× (map.code token_key.the_row.coded token.the_row.coded) (coded× (map.code vol_key.the_row.coded vol.the_row.coded) (coded× (map.code vol_key.the_row.coded (map.code coded_ℕ whole_block_code)) (coded× (map.code coded_ℕ book_code) (map.code policy_key.the_row.coded policy.the_row.coded))))))))))
    (λ m. (m.clock, ((m.changes, m.stamps), (m.secret, (m.snaps, (m.own, (m.tokens, (m.vols, (m.disks, (m.books, m.policies))))))))))
    (λ p. record { clock = p.0; changes = p.1.0.0; stamps = p.1.0.1; secret = p.1.1.0; snaps = p.1.1.1.0; own = p.1.1.1.1.0; tokens = p.1.1.1.1.1.0; vols = p.1.1.1.1.1.1.0; disks = p.1.1.1.1.1.1.1.0; books = p.1.1.1.1.1.1.1.1.0; policies = p.1.1.1.1.1.1.1.1.1 }) (λ _. refl)
