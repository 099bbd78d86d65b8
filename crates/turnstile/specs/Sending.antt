-- A seat at a table may go to another thread where what the slots hold may; so a pass may where the
-- value may. It serves the proofs of crates that start threads.
use denote.RattleType.{RattleType}
use denote.Param.Send.{IsSend}
use Rattle.atomic_table.specs.contracts.shared.Seat.{the_row}
use Rattle.atomic_table.proofs.Sent.{seat_keyless}

pub seat_send : (S V : RattleType) → IsSend S → IsSend (the_row S V)
seat_send S V s = record {
  owned = λ d vs.
      ((λ vss. (tt, ((λ uss. (tt, tt)), tt))), seat_keyless S s V.coded.code d.table_id d.id d.me);
  leaving = λ k f vs. tt;
}
