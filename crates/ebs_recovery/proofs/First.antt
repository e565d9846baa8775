-- What the checkpoint of an empty machine says.
use Rattle.std.proofs.Common.{◌≡◌, ℕ, unwrap_or, length, List, [], Option, refl, sym, ap, ◌∙◌, arith}
use Rattle.std.specs.FinMap as fin
use Rattle.ebs_model.specs.Keys.{snap_cmp, vol_cmp}
use Rattle.ebs_model.specs.Quotas.{block_size}
use Rattle.ebs_model.specs.Arrays.{WholeBlock, WholeArray}
use Rattle.ebs_model.specs.Time.{Snapshot}
use Rattle.ebs_model.specs.Machine.{empty_machine, array_at}
use Rattle.ebs_records.specs.Fields.{long, word}
use Rattle.ebs_checkpoints.specs.declared.checkpoint.Checkpoint.{Checkpoint}
use Rattle.ebs_checkpoints.specs.Checkpoints.{spelled}
use Rattle.ebs_recovery.specs.Made.{start}
use Rattle.ebs_recovery.specs.Bases.{vols_of, owns_of, tokens_of, books_of, policies_of, slots_of, IsBase, Begins}
use Rattle.ebs_recovery.specs.Stands.{Holder, snapshot, volume, EachEntry}
use Rattle.ebs_recovery.specs.inner.Stands.{EachBlock, first_checkpoint, IsSecret}
use Rattle.ebs_recovery.specs.inner.Bases.{snaps_of, disks_of, state_of}
use Rattle.ebs_recovery.proofs.Alike.{start-kept}
use Rattle.ebs_recovery.proofs.Outcomes.{none_in}
use Rattle.ebs_recovery.proofs.Said.{says_whole}

pub no_entries : (P : Holder → ℕ → WholeBlock → Type 0) (secret : List ℕ) → EachEntry P (empty_machine secret)
no_entries P secret (volume key) index b e = none_in index b (ap (λ (o : Option WholeArray). fin.get (unwrap_or o fin.empty) index) (sym (fin.get-empty {X = WholeArray} vol_cmp key)) ∙ e)
no_entries P secret (snapshot key) index b e = none_in index b (ap (λ (o : Option Snapshot). fin.get (array_at o) index) (sym (fin.get-empty {X = Snapshot} snap_cmp key)) ∙ e)

pub no_blocks : (P : WholeBlock → Type 0) (secret : List ℕ) → EachBlock P (empty_machine secret)
no_blocks P = no_entries (λ key index b. P b)

-- the empty machine's checkpoint
abbrev first_point : List ℕ → Checkpoint
first_point secret = record { clock = record { second = 0 }; accepted = 0; next_stamp = 0; next_copy = 0; secret = secret; accounts = []; snapshots = []; volumes = []; rules = []; policies = []; nodes = []; standard = []; archive = [] }

first_bytes : (secret : List ℕ) → first_checkpoint secret ≡ spelled (first_point secret)
unfolding first_checkpoint long word
first_bytes secret = refl

first_state : (secret : List ℕ) → start secret ≡ state_of (first_point secret)
unfolding snaps_of vols_of disks_of owns_of tokens_of books_of policies_of slots_of
first_state secret = refl

pub first_base : (secret : List ℕ) → IsSecret secret → IsBase (first_checkpoint secret) (start secret)
first_base secret is = record {
  point = first_point secret;
  is_checkpoint = record {
    spelling = (
      (omega arith, (omega arith, (omega arith, (omega arith, is)))),
      (((omega arith, tt), ((omega arith, tt), ((omega arith, tt), ((omega arith, tt), (omega arith, tt))))), ((omega arith, tt), ((omega arith, tt), (omega arith, tt)))),
    );
    rules = record { ordered = refl; within = refl; in_quotas = refl; owned = refl; stored = refl; forest = refl; states = refl; arrays = refl };
  };
  is = first_bytes secret;
  says = says_whole (first_point secret) (start secret) (start-kept secret ∙ first_state secret) (no_blocks (λ block. length block.bytes ≡ block_size) secret);
}

-- nothing of it is in the archive
pub first_begins : (secret : List ℕ) → IsSecret secret → Begins (first_checkpoint secret) (start secret)
unfolding first_base
first_begins secret is = record { is = first_base secret is; here = record { rows = refl; slots = refl; next = omega arith } }
