use Rattle.std.proofs.Common.{refl, inl}
use Rattle.outside_io.proofs.SureLaws.{if_ok_all, on_err_all}
use Rattle.outside_io.proofs.RealLaws.{counted_up, counted_ok}
use Rattle.outside_io.proofs.real.RealConsoleConsole.TheImpl.Goals as goal

pub write-tells : goal.write-tells
write-tells g c =
    record {
      some = c.ensures.some;
      ok = if_ok_all _ c.result (λ n. inl refl);
      err = on_err_all _ c.result (inl refl);
      cause = c.ensures.cause;
      count = counted_up _ _ c.result c.ensures.cause c.ensures.after;
      count_ok = counted_ok _ _ c.result c.ensures.after;
    }
