-- A request behind its call's number.
use Rattle.std.proofs.Common.{◌≡◌, ℕ, List, [], ◌∷◌, ◌++◌, Option, Some, None, Result, Ok, Err, refl, sym, ap, subst, ◌∙◌}
use Rattle.ebs_model.specs.declared.keys.SnapKey.{SnapKey}
use Rattle.ebs_model.specs.declared.keys.VolKey.{VolKey}
use Rattle.ebs_model.specs.declared.request.Request.{Request}
use Rattle.ebs_model.specs.declared.request.Request.TheVariants.{PutSnapshotBlock, WriteVolumeBlock}
use Rattle.ebs_records.specs.declared.calls.ChangingCall.TheVariants as call
use Rattle.ebs_records.specs.declared.codec.Unread.{Unread}
use Rattle.ebs_records.specs.declared.codec.Unread.TheVariants.{Malformed, Memory}
use Rattle.ebs_records.specs.declared.calls.ChangingCall.{ChangingCall}
use Rattle.ebs_records.specs.inner.Reading.{Reads}
use Rattle.ebs_records.specs.Calls.{Called, Fields, AreFields, fields, number_of, called, called_by, call_in, called_in, IsAsked}
use Rattle.ebs_records.specs.inner.Calls.{call_byte, fields_by, fields_in, IsAskedOf, same_call}

heads : (m n : ℕ) (x y : List ℕ) → m ∷ x ≡ n ∷ y → (m ≡ n) × (x ≡ y)
heads m n x y e = (cc, cc)

of_same : (c d : ChangingCall) → c ≡ d → (p : Request × Option ℕ) (given : Fields c) → call_in p.0 p.1 ≡ Some (c, given) → AreFields c given → IsAskedOf d p
of_same c d same = subst (λ (d : ChangingCall). (p : Request × Option ℕ) (given : Fields c) → call_in p.0 p.1 ≡ Some (c, given) → AreFields c given → IsAskedOf d p) same (λ p given is fit. record { given = given; is = is; fit = fit })

pub of_call : (c : ChangingCall) (old mid new : List ℕ) (r : Result (Request × Option ℕ) Unread) → old ≡ call_byte c ++ mid → Reads (IsAskedOf c) fields_in mid new r → Reads IsAsked called_in old new r
of_call c old mid new (Err Memory) o h = tt
of_call c old mid new (Ok p) o h =
    let given : Called = (c, h.0.given) in
    let is : fields c h.0.given ≡ fields_in p = sym (ap fields_by h.0.is) in
    (record { given = given; is = h.0.is; fit = h.0.fit }, o ∙ (λ i. number_of c ∷ (h.1 i)) ∙ (λ i. number_of c ∷ (sym is i ++ new)) ∙ (λ i. called_by (sym h.0.is i) ++ new))
of_call c old mid new (Err Malformed) o h = λ p rest f e.
    let is : called_in p ≡ called f.given = ap called_by f.is in
    let both = heads (number_of f.given.0) (number_of c) (fields f.given.0 f.given.1 ++ rest) mid ((λ i. sym is i ++ rest) ∙ sym e ∙ o) in
    h p rest (of_same f.given.0 c (same_call f.given.0 c both.0) p f.given.1 f.is f.fit) (sym both.1 ∙ (λ i. sym (ap fields_by f.is) i ++ rest))

-- ---- what a request that is written has

called_is : (a b : Called) → ◌≡◌ {A = Option Called} (Some a) (Some b) → a ≡ b
called_is a b e = cc

pub fit_as : (p : Request × Option ℕ) → IsAsked p → (r : Request) (s : Option ℕ) → p.0 ≡ r → p.1 ≡ s → (c : Called) → call_in r s ≡ Some c → AreFields c.0 c.1
fit_as p a r s er es c h = subst (λ (c : Called). AreFields c.0 c.1) (called_is a.given c (sym a.is ∙ (λ i. call_in (er i) (es i)) ∙ h)) a.fit

none_called : (c : Called) → ◌≡◌ {A = Option Called} None (Some c) → ⊥
none_called c e = cc

-- a put is written without its bytes
pub record Put (p : Request × Option ℕ) (key : SnapKey) (index : ℕ) (digest : List ℕ) (slot : ℕ) : Type 0 where
  pub fit : AreFields call.PutSnapshotBlock (key, (index, (digest, slot)))
  pub is : called_in p ≡ called (call.PutSnapshotBlock, (key, (index, (digest, slot))))

pub put_as : (p : Request × Option ℕ) → IsAsked p → (key : SnapKey) (index : ℕ) (digest bytes : List ℕ) (slot : ℕ) → p.0 ≡ PutSnapshotBlock key index digest bytes → p.1 ≡ Some slot → Put p key index digest slot
put_as p a key index digest [] slot er es = record {
  fit = fit_as p a (PutSnapshotBlock key index digest []) (Some slot) er es (call.PutSnapshotBlock, (key, (index, (digest, slot)))) refl;
  is = λ i. called_by (call_in (er i) (es i));
}
put_as p a key index digest (b ∷ bytes) slot er es = absurd (none_called a.given (sym ((λ i. call_in (er i) (es i))) ∙ a.is))

-- and so is a block of a volume
pub record Write (p : Request × Option ℕ) (key : VolKey) (index : ℕ) (digest : List ℕ) (slot : ℕ) : Type 0 where
  pub fit : AreFields call.WriteVolumeBlock (key, (index, (digest, slot)))
  pub is : called_in p ≡ called (call.WriteVolumeBlock, (key, (index, (digest, slot))))

pub write_as : (p : Request × Option ℕ) → IsAsked p → (key : VolKey) (index : ℕ) (digest bytes : List ℕ) (slot : ℕ) → p.0 ≡ WriteVolumeBlock key index digest bytes → p.1 ≡ Some slot → Write p key index digest slot
write_as p a key index digest [] slot er es = record {
  fit = fit_as p a (WriteVolumeBlock key index digest []) (Some slot) er es (call.WriteVolumeBlock, (key, (index, (digest, slot)))) refl;
  is = λ i. called_by (call_in (er i) (es i));
}
write_as p a key index digest (b ∷ bytes) slot er es = absurd (none_called a.given (sym ((λ i. call_in (er i) (es i))) ∙ a.is))
