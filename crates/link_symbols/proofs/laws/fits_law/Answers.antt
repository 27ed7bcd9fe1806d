use Rattle.link_symbols.proofs.TableLemmas.{fits_law}
use Rattle.link_symbols.proofs.laws.fits_law.Goals as goal

pub returns : goal.returns
returns c = fits_law
