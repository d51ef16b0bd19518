-- The first laws follow from the definitions' forms
use mathlib.Core.Path.{sym, ap, ◌∙◌}
use Rattle.machine.specs.Sound.{sound}
use Rattle.kept.proofs.Stepping.{idle-step as idles}
use Rattle.promises.specs.Laws.{IdleStep, SameOffer, SameRun, SameLoading, SoundReadsNoStore}

pub idle-step : IdleStep
idle-step = idles

pub same-offer : SameOffer
same-offer code w x o o' e e' = e ∙ sym e'

pub same-run : SameRun
same-run code budget w o o' e e' = e ∙ sym e'

pub same_loading : SameLoading
same_loading bytes common private code o o' e e' = e ∙ sym e'

pub sound_reads_no_store : SoundReadsNoStore
sound_reads_no_store w w' e = ap sound e
