use Rattle.std.proofs.Common.{rules}
use Rattle.sr_value.proofs.FitLemmas.{fitted-record}
use Rattle.sr_value.proofs.fits.+fits.Goals as goal

pub fitted-returns-in_ok-each_fitted-in-Rec-value :
    goal.fitted-returns-in_ok-each_fitted-in-Rec-value
fitted-returns-in_ok-each_fitted-in-Rec-value t c = let e = fitted-record c.in-Rec.shapes c.in-Rec-value.fields in search rules

pub fitted-returns-in_err-each_fitted-in-Rec-value :
    goal.fitted-returns-in_err-each_fitted-in-Rec-value
fitted-returns-in_err-each_fitted-in-Rec-value t c = let e = fitted-record c.in-Rec.shapes c.in-Rec-value.fields in search rules
