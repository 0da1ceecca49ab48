-- What a fault is called.
use Rattle.std.specs.Prelude.{ℕ, List, codes}
use Rattle.frac_text.specs.declared.fault.NumFault.{NumFault}
use Rattle.frac_text.specs.declared.fault.NumFault.TheVariants.{NotNumber, TooWide}

abbrev pub fault_text : NumFault → List ℕ
fault_text NotNumber = codes "no number"
fault_text (TooWide _ _) = codes "a number too wide"
