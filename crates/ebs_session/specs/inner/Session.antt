-- Beside what is promised: what a session takes, answers and writes, and how it ends.
use Rattle.std.specs.Prelude.{ℕ, List, Option}
use Rattle.ebs_exchanges.specs.Exchanges.{Exchange}
use Rattle.ebs_session.specs.declared.end.End.{End}
use Rattle.ebs_session.specs.Session.{Session}

-- what follows of the exchanges holds of them
pub session_with : {Went Holds : List Exchange → Type 0} {limit : ℕ} {end : End} {left_old left_new written_old written_new clock_old clock_new : Option (List ℕ)}
    → ((exchanges : List Exchange) → Went exchanges → Holds exchanges)
    → Session limit end Went left_old left_new written_old written_new clock_old clock_new
    → Session limit end Holds left_old left_new written_old written_new clock_old clock_new
session_with follows s = record {
  taken = s.taken;
  takes = s.takes;
  few = s.few;
  exchanges = s.exchanges;
  rest = s.rest;
  covers = s.covers;
  went = follows s.exchanges s.went;
  gives = s.gives;
  written = s.written;
  writes = s.writes;
  wrote = s.wrote;
  one_way = s.one_way;
  ends = s.ends;
  wanted = s.wanted;
}
