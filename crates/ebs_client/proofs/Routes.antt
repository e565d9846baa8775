-- The route of each shape of path.
use Rattle.std.proofs.Common.{◌≡◌, ℕ, List, [], ◌∷◌, ◌++◌, Option, Some, false, refl, ap, ◌∙◌, codes, ◌==◌}
use Rattle.std.specs.Option.{option_map}
use Rattle.matchit.specs.Router.{RouteOf}
use Rattle.matchit.specs.Seek.{first, seek, step, has_slash, with_suffix}
use Rattle.matchit.proofs.OnLiterals.{matchit_on_literals}
use Rattle.ebs_rest.specs.CallOf.{rows, Routed}
use Rattle.ebs_client.proofs.Seeks.{walk, seek_walk, seek_byte_first, seek_last, seek_front, no_byte}

abbrev path_of_route : Option (RouteOf (List ℕ)) → Option (List ℕ)
path_of_route found = option_map (λ route. route.value) found

abbrev pub routed : List ℕ → Option (List ℕ)
routed path = path_of_route (first rows path)

pub at_volume : (cs : List ℕ) → has_slash (118 ∷ cs) ≡ false → routed (codes "/volumes/" ++ 118 ∷ cs) ≡ Some (codes "/volumes/{volumeId}")
unfolding matchit_on_literals rows
at_volume cs h = ap path_of_route (seek_walk (codes "/volumes/") (118 ∷ cs) rows refl ∙ seek_last 118 cs (walk (codes "/volumes/") rows) refl refl refl h)

pub at_snapshot : (cs : List ℕ) → has_slash (115 ∷ cs) ≡ false → routed (codes "/snapshots/" ++ 115 ∷ cs) ≡ Some (codes "/snapshots/{snapshotId}")
unfolding matchit_on_literals rows
at_snapshot cs h = ap path_of_route (seek_walk (codes "/snapshots/") (115 ∷ cs) rows refl ∙ seek_last 115 cs (walk (codes "/snapshots/") rows) refl refl refl h)

pub at_snapshots : routed (codes "/snapshots") ≡ Some (codes "/snapshots")
unfolding matchit_on_literals rows
at_snapshots = refl

pub at_volumes : routed (codes "/volumes") ≡ Some (codes "/volumes")
unfolding matchit_on_literals rows
at_volumes = refl

pub at_rules : routed (codes "/rules") ≡ Some (codes "/rules")
unfolding matchit_on_literals rows
at_rules = refl

pub at_rule_list : routed (codes "/list-rules") ≡ Some (codes "/list-rules")
unfolding matchit_on_literals rows
at_rule_list = refl

pub at_bin : routed (codes "/recycle-bin") ≡ Some (codes "/recycle-bin")
unfolding matchit_on_literals rows
at_bin = refl

pub at_policies : routed (codes "/policies") ≡ Some (codes "/policies")
unfolding matchit_on_literals rows
at_policies = refl

pub at_rule : (cs : List ℕ) → has_slash (114 ∷ cs) ≡ false → routed (codes "/rules/" ++ 114 ∷ cs) ≡ Some (codes "/rules/{identifier}")
unfolding matchit_on_literals rows
at_rule cs h = ap path_of_route (seek_walk (codes "/rules/") (114 ∷ cs) rows refl ∙ seek_last 114 cs (walk (codes "/rules/") rows) refl refl refl h)

pub at_binned : (cs : List ℕ) → has_slash (115 ∷ cs) ≡ false → routed (codes "/recycle-bin/" ++ 115 ∷ cs) ≡ Some (codes "/recycle-bin/{snapshotId}")
unfolding matchit_on_literals rows
at_binned cs h = ap path_of_route (seek_walk (codes "/recycle-bin/") (115 ∷ cs) rows refl ∙ seek_last 115 cs (walk (codes "/recycle-bin/") rows) refl refl refl h)

pub at_policy : (cs : List ℕ) → has_slash (112 ∷ cs) ≡ false → routed (codes "/policies/" ++ 112 ∷ cs) ≡ Some (codes "/policies/{policyId}")
unfolding matchit_on_literals rows
at_policy cs h = ap path_of_route (seek_walk (codes "/policies/") (112 ∷ cs) rows refl ∙ seek_last 112 cs (walk (codes "/policies/") rows) refl refl refl h)

-- what follows a volume's id
abbrev behind_volume : Routed
behind_volume = with_suffix (47 ∷ []) (step 256 (walk (codes "/volumes/") rows))

abbrev behind_snapshot : Routed
behind_snapshot = with_suffix (47 ∷ []) (step 256 (walk (codes "/snapshots/") rows))

past_volume : (cs rest : List ℕ) → has_slash (118 ∷ cs) ≡ false → routed (codes "/volumes/" ++ ((118 ∷ cs) ++ 47 ∷ rest)) ≡ path_of_route (seek 0 behind_volume (47 ∷ rest))
unfolding matchit_on_literals rows
past_volume cs rest h =
    ap path_of_route (seek_walk (codes "/volumes/") ((118 ∷ cs) ++ 47 ∷ rest) rows refl ∙ seek_front 118 cs rest (walk (codes "/volumes/") rows) refl refl refl refl h)

past_snapshot : (cs rest : List ℕ) → has_slash (115 ∷ cs) ≡ false → routed (codes "/snapshots/" ++ ((115 ∷ cs) ++ 47 ∷ rest)) ≡ path_of_route (seek 0 behind_snapshot (47 ∷ rest))
unfolding matchit_on_literals rows
past_snapshot cs rest h =
    ap path_of_route (seek_walk (codes "/snapshots/") ((115 ∷ cs) ++ 47 ∷ rest) rows refl ∙ seek_front 115 cs rest (walk (codes "/snapshots/") rows) refl refl refl refl h)

-- or a rule's
abbrev behind_rule : Routed
behind_rule = with_suffix (47 ∷ []) (step 256 (walk (codes "/rules/") rows))

past_rule : (cs rest : List ℕ) → has_slash (114 ∷ cs) ≡ false → routed (codes "/rules/" ++ ((114 ∷ cs) ++ 47 ∷ rest)) ≡ path_of_route (seek 0 behind_rule (47 ∷ rest))
unfolding matchit_on_literals rows
past_rule cs rest h =
    ap path_of_route (seek_walk (codes "/rules/") ((114 ∷ cs) ++ 47 ∷ rest) rows refl ∙ seek_front 114 cs rest (walk (codes "/rules/") rows) refl refl refl refl h)

pub at_rule_lock : (cs : List ℕ) → has_slash (114 ∷ cs) ≡ false → routed (codes "/rules/" ++ ((114 ∷ cs) ++ codes "/lock")) ≡ Some (codes "/rules/{identifier}/lock")
unfolding matchit_on_literals rows
at_rule_lock cs h = past_rule cs (codes "lock") h

pub at_rule_unlock : (cs : List ℕ) → has_slash (114 ∷ cs) ≡ false → routed (codes "/rules/" ++ ((114 ∷ cs) ++ codes "/unlock")) ≡ Some (codes "/rules/{identifier}/unlock")
unfolding matchit_on_literals rows
at_rule_unlock cs h = past_rule cs (codes "unlock") h

abbrev behind_policy : Routed
behind_policy = with_suffix (47 ∷ []) (step 256 (walk (codes "/policies/") rows))

past_policy : (cs rest : List ℕ) → has_slash (112 ∷ cs) ≡ false → routed (codes "/policies/" ++ ((112 ∷ cs) ++ 47 ∷ rest)) ≡ path_of_route (seek 0 behind_policy (47 ∷ rest))
unfolding matchit_on_literals rows
past_policy cs rest h =
    ap path_of_route (seek_walk (codes "/policies/") ((112 ∷ cs) ++ 47 ∷ rest) rows refl ∙ seek_front 112 cs rest (walk (codes "/policies/") rows) refl refl refl refl h)

pub at_policy_run : (cs : List ℕ) → has_slash (112 ∷ cs) ≡ false → routed (codes "/policies/" ++ ((112 ∷ cs) ++ codes "/run")) ≡ Some (codes "/policies/{policyId}/run")
unfolding matchit_on_literals rows
at_policy_run cs h = past_policy cs (codes "run") h

pub at_blocks : (cs : List ℕ) → has_slash (115 ∷ cs) ≡ false → routed (codes "/snapshots/" ++ ((115 ∷ cs) ++ codes "/blocks")) ≡ Some (codes "/snapshots/{snapshotId}/blocks")
unfolding matchit_on_literals rows
at_blocks cs h = past_snapshot cs (codes "blocks") h

pub at_changes : (cs : List ℕ) → has_slash (115 ∷ cs) ≡ false → routed (codes "/snapshots/" ++ ((115 ∷ cs) ++ codes "/changedblocks")) ≡ Some (codes "/snapshots/{secondSnapshotId}/changedblocks")
unfolding matchit_on_literals rows
at_changes cs h = past_snapshot cs (codes "changedblocks") h

pub at_lock : (cs : List ℕ) → has_slash (115 ∷ cs) ≡ false → routed (codes "/snapshots/" ++ ((115 ∷ cs) ++ codes "/lock")) ≡ Some (codes "/snapshots/{snapshotId}/lock")
unfolding matchit_on_literals rows
at_lock cs h = past_snapshot cs (codes "lock") h

pub at_tier : (cs : List ℕ) → has_slash (115 ∷ cs) ≡ false → routed (codes "/snapshots/" ++ ((115 ∷ cs) ++ codes "/tier")) ≡ Some (codes "/snapshots/{snapshotId}/tier")
unfolding matchit_on_literals rows
at_tier cs h = past_snapshot cs (codes "tier") h

pub at_permission : (cs : List ℕ) → has_slash (115 ∷ cs) ≡ false → routed (codes "/snapshots/" ++ ((115 ∷ cs) ++ codes "/permission")) ≡ Some (codes "/snapshots/{snapshotId}/permission")
unfolding matchit_on_literals rows
at_permission cs h = past_snapshot cs (codes "permission") h

pub at_restore : (cs : List ℕ) → has_slash (115 ∷ cs) ≡ false → routed (codes "/snapshots/" ++ ((115 ∷ cs) ++ codes "/restore-tier")) ≡ Some (codes "/snapshots/{snapshotId}/restore-tier")
unfolding matchit_on_literals rows
at_restore cs h = past_snapshot cs (codes "restore-tier") h

pub at_volume_snapshots : (cs : List ℕ) → has_slash (118 ∷ cs) ≡ false → routed (codes "/volumes/" ++ ((118 ∷ cs) ++ codes "/snapshots")) ≡ Some (codes "/volumes/{volumeId}/snapshots")
unfolding matchit_on_literals rows
at_volume_snapshots cs h = past_volume cs (codes "snapshots") h

pub at_block : (cs : List ℕ) (d : ℕ) (ds : List ℕ) → has_slash (115 ∷ cs) ≡ false → has_slash (d ∷ ds) ≡ false → (256 == d) ≡ false
    → routed (codes "/snapshots/" ++ ((115 ∷ cs) ++ (codes "/blocks/" ++ d ∷ ds))) ≡ Some (codes "/snapshots/{snapshotId}/blocks/{blockIndex}")
unfolding matchit_on_literals rows
at_block cs d ds h k other =
    past_snapshot cs (codes "blocks/" ++ d ∷ ds) h
    ∙ ap path_of_route (seek_walk (codes "/blocks/") (d ∷ ds) behind_snapshot refl ∙ seek_last d ds (walk (codes "/blocks/") behind_snapshot) (no_byte d (walk (codes "/blocks/") behind_snapshot) refl other) refl refl k)

pub at_volume_block : (cs : List ℕ) (d : ℕ) (ds : List ℕ) → has_slash (118 ∷ cs) ≡ false → has_slash (d ∷ ds) ≡ false → (256 == d) ≡ false
    → routed (codes "/volumes/" ++ ((118 ∷ cs) ++ (codes "/blocks/" ++ d ∷ ds))) ≡ Some (codes "/volumes/{volumeId}/blocks/{blockIndex}")
unfolding matchit_on_literals rows
at_volume_block cs d ds h k other =
    past_volume cs (codes "blocks/" ++ d ∷ ds) h
    ∙ ap path_of_route (seek_walk (codes "/blocks/") (d ∷ ds) behind_volume refl ∙ seek_last d ds (walk (codes "/blocks/") behind_volume) (no_byte d (walk (codes "/blocks/") behind_volume) refl other) refl refl k)

-- a piece of the table's own comes before a parameter
pub at_completion : (cs : List ℕ) → has_slash (115 ∷ cs) ≡ false → routed (codes "/snapshots/completion/" ++ 115 ∷ cs) ≡ Some (codes "/snapshots/completion/{snapshotId}")
unfolding matchit_on_literals rows
at_completion cs h =
    let there = walk (codes "/snapshots/c") rows in
    ap path_of_route
    (seek_walk (codes "/snapshots/") (codes "completion/" ++ 115 ∷ cs) rows refl
    ∙ seek_byte_first 99 (codes "ompletion/" ++ 115 ∷ cs) (walk (codes "/snapshots/") rows) _
    (seek_walk (codes "ompletion/") (115 ∷ cs) there refl ∙ seek_last 115 cs (walk (codes "ompletion/") there) refl refl refl h))
