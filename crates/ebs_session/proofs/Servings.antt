-- Messages that were answered, one after another.
use Rattle.std.proofs.Common.{◌≡◌, ◌≢◌, ◌⊎◌, inl, inr, ℕ, List, [], ◌∷◌, ◌++◌, Option, Result, Ok, Err, refl, sym, subst, append-nil}
use Rattle.std.proofs.KnownBytes.{Appends-nil, Appends-trans}
use Rattle.std.specs.Io.KnownBytes.{Appends}
use Rattle.ebs_model.specs.declared.answer.Answer.TheVariants as said
use Rattle.ebs_http.specs.Messages.{ReadsMessage}
use Rattle.ebs_http.specs.declared.message.Message.{Message}
use Rattle.ebs_print.specs.Printed.{text_of}
use Rattle.ebs_exchanges.specs.Exchanges.{Exchange}
use Rattle.ebs_session.specs.Session.{Replying, Wrote, LeavesLast}
use Rattle.ebs_session.specs.inner.Progress.{Put, Answered, Served, end_of}
use Rattle.ebs_session.specs.declared.end.End.{End}
use Rattle.ebs_session.specs.declared.end.End.TheVariants.{Done, InputFailed, OutputFailed, Cut, Bad, Memory, Limit}
use Rattle.ebs_session.proofs.Chains.{chain_on, messages_on, readings_on, wrote_on, left_on}

-- what was written of one answer
record Written (end : End) (x : Exchange) (old new : Option (List ℕ)) : Type 0 where
  written : List ℕ
  writes : Appends old new written
  wrote : Wrote end (x ∷ []) written
  wanted : end ≡ Memory → LeavesLast (x ∷ []) written

put_wrote : (result : Result (Unit {0}) End) (x : Exchange) (old new : Option (List ℕ)) → Put result old new (text_of x.answer)
    → (result ≡ Err Memory → x.answer ≢ said.Memory) → Written (end_of result) x old new
put_wrote (Ok u) x old new put told = record { written = text_of x.answer; writes = put; wrote = sym (append-nil (text_of x.answer)); wanted = λ e. cc }
put_wrote (Err OutputFailed) x old new (front, begins, writes) told = record { written = front; writes = writes; wrote = ([], x, front, refl, refl, begins); wanted = λ e. cc }
put_wrote (Err Memory) x old new put told =
    record { written = []; writes = put; wrote = inr ([], x, refl, refl, told refl); wanted = λ e. ([], x, refl, refl, told refl) }
put_wrote (Err Done) x old new put told = absurd put
put_wrote (Err InputFailed) x old new put told = absurd put
put_wrote (Err (Cut waiting)) x old new put told = absurd put
put_wrote (Err (Bad place)) x old new put told = absurd put
put_wrote (Err Limit) x old new put told = absurd put

-- no message yet
pub none_served : {R W : Type 0} (replies : Replying R W) (bytes : List ℕ) (r : R) (v : W) (w k : Option (List ℕ)) → Served replies Done bytes bytes r v r v w w k k
none_served replies bytes r v w k = record { exchanges = []; reads = refl; went = (refl, refl); gives = refl; written = []; writes = Appends-nil w; wrote = refl; wanted = λ e. cc }

module _ {R W : Type 0} {replies : Replying R W} {a b : List ℕ} {r s : R} {v w : W} {w0 w1 k0 k1 : Option (List ℕ)} where
  one_served : (result : Result (Unit {0}) End) (message : Message) → ReadsMessage a message b → Answered replies result message r v s w w0 w1 k0 k1 → Served replies (end_of result) a b r v s w w0 w1 k0 k1
  one_served result message reads answered =
      let x : Exchange = record { message = message; reading = answered.reading; answer = answered.answer } in
      let put = put_wrote result x w0 w1 answered.put answered.told in
      record {
        exchanges = x ∷ [];
        reads = (b, reads, refl);
        went = (s, w, answered.replied, (refl, refl));
        gives = (k1, answered.ticks, refl);
        written = put.written;
        writes = put.writes;
        wrote = put.wrote;
        wanted = λ e. inr (put.wanted e);
      }

  -- all were answered, and the session ends otherwise
  pub ended_by : (end : End) → (p : Served replies Done a b r v s w w0 w1 k0 k1) → Wrote end p.exchanges p.written
      → (end ≡ Memory → (b ≢ []) ⊎ LeavesLast p.exchanges p.written) → Served replies end a b r v s w w0 w1 k0 k1
  ended_by end p wrote wanted = record { exchanges = p.exchanges; reads = p.reads; went = p.went; gives = p.gives; written = p.written; writes = p.writes; wrote = wrote; wanted = wanted }

  pub ended_by_memory : b ≢ [] → Served replies Done a b r v s w w0 w1 k0 k1 → Served replies Memory a b r v s w w0 w1 k0 k1
  ended_by_memory some p = ended_by Memory p (inl p.wrote) (λ e. inl some)

module _ {R W : Type 0} {replies : Replying R W} {a b c : List ℕ} {r s t : R} {v w u : W} {w0 w1 w2 k0 k1 k2 : Option (List ℕ)} where
  pub served_on : (end : End) → Served replies Done a b r v s w w0 w1 k0 k1 → Served replies end b c s w t u w1 w2 k1 k2 → Served replies end a c r v t u w0 w2 k0 k2
  served_on end p q = record {
    exchanges = p.exchanges ++ q.exchanges;
    reads = messages_on p.exchanges q.exchanges a b c p.reads q.reads;
    went = chain_on replies p.exchanges q.exchanges r s t v w u p.went q.went;
    gives = readings_on p.exchanges q.exchanges k0 k1 k2 p.gives q.gives;
    written = p.written ++ q.written;
    writes = Appends-trans w0 w1 w2 p.written q.written p.writes q.writes;
    wrote = subst (λ (l : List ℕ). Wrote end (p.exchanges ++ q.exchanges) (l ++ q.written)) (sym p.wrote) (wrote_on end p.exchanges q.exchanges q.written q.wrote);
    wanted = λ e. left_on p.exchanges q.exchanges c p.written q.written p.wrote (q.wanted e);
  }

  -- one more message was answered
  pub one_more : (result : Result (Unit {0}) End) (message : Message) → Served replies Done a b r v s w w0 w1 k0 k1 → ReadsMessage b message c
      → Answered replies result message s w t u w1 w2 k1 k2 → Served replies (end_of result) a c r v t u w0 w2 k0 k2
  one_more result message p reads answered = served_on (end_of result) p (one_served result message reads answered)
