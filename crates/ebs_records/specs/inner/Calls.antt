-- Beside what is promised: the changing calls, each with the fields that its record has, in their order.
use Rattle.std.proofs.Common.{ℕ, [], Option, Some, None, List, ◌≡◌, cond, eqb, refl, sym, ap, ◌∙◌, ◌∷◌, ◌++◌, subst}
use Rattle.ebs_model.specs.declared.request.Request.{Request}
use Rattle.ebs_model.specs.declared.request.Request.TheVariants.{StartSnapshot, PutSnapshotBlock, CompleteSnapshot, DeleteSnapshot, ModifyPermission, LockSnapshot, UnlockSnapshot, ArchiveSnapshot, RestoreTier, CreateVolume, CreateSnapshot, WriteVolumeBlock, DeleteVolume, CreateRule, UpdateRule, DeleteRule, LockRule, UnlockRule, RestoreFromBin, CreatePolicy, DeletePolicy, RunPolicy}
use Rattle.ebs_records.specs.declared.calls.ChangingCall.{ChangingCall}
use Rattle.ebs_records.specs.declared.calls.ChangingCall.TheVariants as call
use Rattle.ebs_records.specs.States.{IsRetain, retain}
use Rattle.ebs_records.specs.Calls.{Called, fields, AreFields, Fields, call_in, number_of, IsCalled, called, IsAsked, called_by, called_in}
use Rattle.ebs_records.specs.Fields.{optional, IsOptional, IsKey, key, IsText, text, AreMembers, members, IsTag, tag, IsDigest, digest, long, IsAccount, IsWord, word, IsLong, IsRuleTag, rule_tag, flag, IsFlag, IsVolume, volume, IsRule, rule, mode, IsMode, term, IsTerm}
use Rattle.ebs_records.specs.inner.Apart.{Apart, apart_pair}
use Rattle.ebs_records.specs.inner.Choices.{apart_optional, apart_flag}
use Rattle.ebs_records.specs.inner.Keys.{apart_key, apart_account, apart_volume, apart_rule}
use Rattle.ebs_records.specs.inner.Lists.{apart_text, apart_members, apart_digest}
use Rattle.ebs_records.specs.inner.Locks.{apart_mode, apart_term}
use Rattle.ebs_records.specs.inner.Names.{apart_policy_key}
use Rattle.ebs_records.specs.inner.Numbers.{apart_word, apart_long}
use Rattle.ebs_records.specs.inner.States.{apart_retain}
use Rattle.ebs_records.specs.inner.Tags.{apart_tag, apart_rule_tag}

-- and back
abbrev pub asked : Called → Request × Option ℕ
asked (call.StartSnapshot, f) = (StartSnapshot f.0 f.1.0 f.1.1.0 f.1.1.1.0 f.1.1.1.1.0 f.1.1.1.1.1, None)
asked (call.PutSnapshotBlock, f) = (PutSnapshotBlock f.0 f.1.0 f.1.1.0 [], Some f.1.1.1)
asked (call.CompleteSnapshot, f) = (CompleteSnapshot f.0 f.1.0 f.1.1, None)
asked (call.DeleteSnapshot, f) = (DeleteSnapshot f, None)
asked (call.ModifyPermission, f) = (ModifyPermission f.0 f.1.0 f.1.1.0 f.1.1.1.0 f.1.1.1.1, None)
asked (call.LockSnapshot, f) = (LockSnapshot f.0 f.1.0 f.1.1.0 f.1.1.1, None)
asked (call.UnlockSnapshot, f) = (UnlockSnapshot f, None)
asked (call.ArchiveSnapshot, f) = (ArchiveSnapshot f, None)
asked (call.RestoreTier, f) = (RestoreTier f.0 f.1, None)
asked (call.CreateVolume, f) = (CreateVolume f.0 f.1.0 f.1.1.0 f.1.1.1, None)
asked (call.CreateSnapshot, f) = (CreateSnapshot f.0 f.1.0 f.1.1, None)
asked (call.WriteVolumeBlock, f) = (WriteVolumeBlock f.0 f.1.0 f.1.1.0 [], Some f.1.1.1)
asked (call.DeleteVolume, f) = (DeleteVolume f, None)
asked (call.CreateRule, f) = (CreateRule f.0 f.1.0 f.1.1.0 f.1.1.1, None)
asked (call.UpdateRule, f) = (UpdateRule f.0 f.1.0 f.1.1.0 f.1.1.1, None)
asked (call.DeleteRule, f) = (DeleteRule f, None)
asked (call.LockRule, f) = (LockRule f.0 f.1, None)
asked (call.UnlockRule, f) = (UnlockRule f, None)
asked (call.RestoreFromBin, f) = (RestoreFromBin f, None)
asked (call.CreatePolicy, f) = (CreatePolicy f.0 f.1.0 f.1.1.0 f.1.1.1.0 f.1.1.1.1, None)
asked (call.DeletePolicy, f) = (DeletePolicy f, None)
asked (call.RunPolicy, f) = (RunPolicy f, None)

-- ---- what a request and its slot have as bytes

-- of a changing call the fields behind its number
abbrev pub fields_by : Option Called → List ℕ
fields_by None = []
fields_by (Some c) = fields c.0 c.1

-- it is this call
pub record IsAskedOf (c : ChangingCall) (p : Request × Option ℕ) : Type 0 where
  pub given : Fields c
  pub is : call_in p.0 p.1 ≡ Some (c, given)
  pub fit : AreFields c given

abbrev pub fields_in : Request × Option ℕ → List ℕ
fields_in p = fields_by (call_in p.0 p.1)

-- ---- no spelling begins another

abbrev numbered : ℕ → Option ChangingCall
numbered n =
    cond (eqb n 1) (Some call.StartSnapshot) (cond (eqb n 2) (Some call.PutSnapshotBlock) (cond (eqb n 3) (Some call.CompleteSnapshot) (cond (eqb n 9) (Some call.DeleteSnapshot) (cond (eqb n 10) (Some call.ModifyPermission)
    (cond (eqb n 11) (Some call.LockSnapshot) (cond (eqb n 12) (Some call.UnlockSnapshot) (cond (eqb n 13) (Some call.ArchiveSnapshot) (cond (eqb n 14) (Some call.RestoreTier)
    (cond (eqb n 15) (Some call.CreateVolume) (cond (eqb n 16) (Some call.CreateSnapshot) (cond (eqb n 17) (Some call.WriteVolumeBlock) (cond (eqb n 20) (Some call.DeleteVolume)
    (cond (eqb n 21) (Some call.CreateRule) (cond (eqb n 23) (Some call.UpdateRule) (cond (eqb n 24) (Some call.DeleteRule) (cond (eqb n 26) (Some call.LockRule) (cond (eqb n 27) (Some call.UnlockRule) (cond (eqb n 29) (Some call.RestoreFromBin)
    (cond (eqb n 30) (Some call.CreatePolicy) (cond (eqb n 32) (Some call.DeletePolicy) (cond (eqb n 33) (Some call.RunPolicy) None)))))))))))))))))))))

numbered_back : (c : ChangingCall) → numbered (number_of c) ≡ Some c
numbered_back call.StartSnapshot = refl
numbered_back call.PutSnapshotBlock = refl
numbered_back call.CompleteSnapshot = refl
numbered_back call.DeleteSnapshot = refl
numbered_back call.ModifyPermission = refl
numbered_back call.LockSnapshot = refl
numbered_back call.UnlockSnapshot = refl
numbered_back call.ArchiveSnapshot = refl
numbered_back call.RestoreTier = refl
numbered_back call.CreateVolume = refl
numbered_back call.CreateSnapshot = refl
numbered_back call.WriteVolumeBlock = refl
numbered_back call.DeleteVolume = refl
numbered_back call.CreateRule = refl
numbered_back call.UpdateRule = refl
numbered_back call.DeleteRule = refl
numbered_back call.LockRule = refl
numbered_back call.UnlockRule = refl
numbered_back call.RestoreFromBin = refl
numbered_back call.CreatePolicy = refl
numbered_back call.DeletePolicy = refl
numbered_back call.RunPolicy = refl

some_call : (c d : ChangingCall) → Some c ≡ Some d → c ≡ d
some_call c d e = cc

pub same_call : (c d : ChangingCall) → number_of c ≡ number_of d → c ≡ d
same_call c d e = some_call c d (sym (numbered_back c) ∙ ap numbered e ∙ numbered_back d)

apart_parent : Apart (IsOptional IsKey) (optional key)
apart_parent = apart_optional IsKey key apart_key

apart_words : Apart (IsOptional IsText) (optional text)
apart_words = apart_optional IsText text apart_text

apart_tags : Apart (AreMembers IsTag) (members tag)
apart_tags = apart_members IsTag tag apart_tag

apart_checksum : Apart (IsOptional IsDigest) (optional digest)
apart_checksum = apart_optional IsDigest digest apart_digest

apart_accounts : Apart (AreMembers IsAccount) (members long)
apart_accounts = apart_members IsAccount long apart_account

apart_hours : Apart (IsOptional IsWord) (optional word)
apart_hours = apart_optional IsWord word apart_word

apart_size : Apart (IsOptional IsLong) (optional long)
apart_size = apart_optional IsLong long apart_long

apart_rule_tags : Apart (AreMembers IsRuleTag) (members rule_tag)
apart_rule_tags = apart_members IsRuleTag rule_tag apart_rule_tag

apart_new_tags : Apart (IsOptional (AreMembers IsRuleTag)) (optional (members rule_tag))
apart_new_tags = apart_optional (AreMembers IsRuleTag) (members rule_tag) apart_rule_tags

pub apart_fields : (c : ChangingCall) → Apart (AreFields c) (fields c)
apart_fields call.StartSnapshot =
    apart_pair IsLong long _ _ apart_long (apart_pair (IsOptional IsKey) (optional key) _ _ apart_parent (apart_pair (IsOptional IsText) (optional text) _ _ apart_words
    (apart_pair (AreMembers IsTag) (members tag) _ _ apart_tags (apart_pair (IsOptional IsText) (optional text) IsWord word apart_words apart_word))))
apart_fields call.PutSnapshotBlock = apart_pair IsKey key _ _ apart_key (apart_pair IsLong long _ _ apart_long (apart_pair IsDigest digest IsLong long apart_digest apart_long))
apart_fields call.CompleteSnapshot = apart_pair IsKey key _ _ apart_key (apart_pair IsLong long (IsOptional IsDigest) (optional digest) apart_long apart_checksum)
apart_fields call.DeleteSnapshot = apart_key
apart_fields call.ModifyPermission =
    apart_pair IsKey key _ _ apart_key (apart_pair (AreMembers IsAccount) (members long) _ _ apart_accounts (apart_pair IsFlag flag _ _ apart_flag (apart_pair (AreMembers IsAccount) (members long) IsFlag flag apart_accounts apart_flag)))
apart_fields call.LockSnapshot = apart_pair IsKey key _ _ apart_key (apart_pair IsMode mode _ _ apart_mode (apart_pair IsTerm term (IsOptional IsWord) (optional word) apart_term apart_hours))
apart_fields call.UnlockSnapshot = apart_key
apart_fields call.ArchiveSnapshot = apart_key
apart_fields call.RestoreTier = apart_pair IsKey key (IsOptional IsWord) (optional word) apart_key apart_hours
apart_fields call.CreateVolume =
    apart_pair (IsOptional IsKey) (optional key) _ _ apart_parent (apart_pair (IsOptional IsLong) (optional long) _ _ apart_size (apart_pair (AreMembers IsTag) (members tag) (IsOptional IsText) (optional text) apart_tags apart_words))
apart_fields call.CreateSnapshot = apart_pair IsVolume volume _ _ apart_volume (apart_pair (IsOptional IsText) (optional text) (AreMembers IsTag) (members tag) apart_words apart_tags)
apart_fields call.WriteVolumeBlock = apart_pair IsVolume volume _ _ apart_volume (apart_pair IsLong long _ _ apart_long (apart_pair IsDigest digest IsLong long apart_digest apart_long))
apart_fields call.DeleteVolume = apart_volume
apart_fields call.CreateRule =
    apart_pair IsWord word _ _ apart_word (apart_pair (AreMembers IsRuleTag) (members rule_tag) _ _ apart_rule_tags (apart_pair (IsOptional IsText) (optional text) (IsOptional IsWord) (optional word) apart_words apart_hours))
apart_fields call.UpdateRule =
    apart_pair IsRule rule _ _ apart_rule (apart_pair (IsOptional IsWord) (optional word) _ _ apart_hours (apart_pair (IsOptional (AreMembers IsRuleTag)) (optional (members rule_tag)) (IsOptional IsText) (optional text) apart_new_tags apart_words))
apart_fields call.DeleteRule = apart_rule
apart_fields call.LockRule = apart_pair IsRule rule IsWord word apart_rule apart_word
apart_fields call.UnlockRule = apart_rule
apart_fields call.RestoreFromBin = apart_key
apart_fields call.CreatePolicy =
    apart_pair (AreMembers IsTag) (members tag) _ _ apart_tags (apart_pair IsWord word _ _ apart_word (apart_pair IsWord word _ _ apart_word (apart_pair IsRetain retain (AreMembers IsTag) (members tag) apart_retain apart_tags)))
apart_fields call.DeletePolicy = apart_policy_key
apart_fields call.RunPolicy = apart_policy_key

heads : (m n : ℕ) (x y : List ℕ) → m ∷ x ≡ n ∷ y → (m ≡ n) × (x ≡ y)
heads m n x y e = (cc, cc)

-- of one call
apart_one : (c d : ChangingCall) → c ≡ d → (f : Fields c) (g : Fields d) (x y : List ℕ) → AreFields c f → AreFields d g → fields c f ++ x ≡ fields d g ++ y → (◌≡◌ {A = Called} (c, f) (d, g)) × (x ≡ y)
apart_one c d same = subst (λ (d : ChangingCall). (f : Fields c) (g : Fields d) (x y : List ℕ) → AreFields c f → AreFields d g → fields c f ++ x ≡ fields d g ++ y → (◌≡◌ {A = Called} (c, f) (d, g)) × (x ≡ y)) same
    (λ f g x y a b e. let both = apart_fields c f g x y a b e in (ap (λ (t : Fields c). (c, t)) both.0, both.1))

pub apart_called : Apart IsCalled called
apart_called v w x y a b e =
    let both = heads (number_of v.0) (number_of w.0) (fields v.0 v.1 ++ x) (fields w.0 w.1 ++ y) e in
    apart_one v.0 w.0 (same_call v.0 w.0 both.0) v.1 w.1 x y a b both.1

given_is : (a b : Called) → Some a ≡ Some b → a ≡ b
given_is a b e = cc

asked_same : (r : Request) (s : Option ℕ) (c : Called) → call_in r s ≡ Some c → asked c ≡ (r, s)
asked_same (StartSnapshot size parent description tags token timeout) None c e = sym (ap asked (given_is _ c e))
asked_same (PutSnapshotBlock key index digest []) (Some slot) c e = sym (ap asked (given_is _ c e))
asked_same (CompleteSnapshot key count checksum) None c e = sym (ap asked (given_is _ c e))
asked_same (DeleteSnapshot key) None c e = sym (ap asked (given_is _ c e))
asked_same (ModifyPermission key add add_all remove remove_all) None c e = sym (ap asked (given_is _ c e))
asked_same (LockSnapshot key mode term cool_hours) None c e = sym (ap asked (given_is _ c e))
asked_same (UnlockSnapshot key) None c e = sym (ap asked (given_is _ c e))
asked_same (ArchiveSnapshot key) None c e = sym (ap asked (given_is _ c e))
asked_same (RestoreTier key days) None c e = sym (ap asked (given_is _ c e))
asked_same (CreateVolume origin size tags token) None c e = sym (ap asked (given_is _ c e))
asked_same (CreateSnapshot key description tags) None c e = sym (ap asked (given_is _ c e))
asked_same (WriteVolumeBlock key index digest []) (Some slot) c e = sym (ap asked (given_is _ c e))
asked_same (DeleteVolume key) None c e = sym (ap asked (given_is _ c e))
asked_same (CreateRule days tags description delay) None c e = sym (ap asked (given_is _ c e))
asked_same (UpdateRule key days tags description) None c e = sym (ap asked (given_is _ c e))
asked_same (DeleteRule key) None c e = sym (ap asked (given_is _ c e))
asked_same (LockRule key delay) None c e = sym (ap asked (given_is _ c e))
asked_same (UnlockRule key) None c e = sym (ap asked (given_is _ c e))
asked_same (RestoreFromBin key) None c e = sym (ap asked (given_is _ c e))
asked_same (CreatePolicy targets hours at retain add) None c e = sym (ap asked (given_is _ c e))
asked_same (DeletePolicy key) None c e = sym (ap asked (given_is _ c e))
asked_same (RunPolicy key) None c e = sym (ap asked (given_is _ c e))
asked_same request s c e = absurd cc

pub apart_asked : Apart IsAsked called_in
apart_asked v w x y a b e =
    let both = apart_called a.given b.given x y a.fit b.fit ((λ i. called_by (sym a.is i) ++ x) ∙ e ∙ (λ i. called_by (b.is i) ++ y)) in
    (sym (asked_same v.0 v.1 a.given a.is) ∙ ap asked both.0 ∙ asked_same w.0 w.1 b.given b.is, both.1)

abbrev pub IsCall : ChangingCall → Type 0
IsCall c = Unit {0}

abbrev pub call_byte : ChangingCall → List ℕ
call_byte c = number_of c ∷ []

pub apart_call_byte : Apart IsCall call_byte
apart_call_byte v w x y a b e = let both = heads (number_of v) (number_of w) x y e in (same_call v w both.0, both.1)
