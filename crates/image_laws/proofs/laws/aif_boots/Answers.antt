use Rattle.image_laws.proofs.AifFixed
use Rattle.image_laws.proofs.AifLemmas
use Rattle.image_laws.proofs.AifMoved
use Rattle.image_laws.proofs.laws.aif_boots.Goals as goal

pub returns-clause-header : goal.returns-clause-header
returns-clause-header c = AifLemmas.header_law

pub returns-clause-relocatable : goal.returns-clause-relocatable
returns-clause-relocatable c = AifMoved.relocatable_law

pub returns-clause-own_base : goal.returns-clause-own_base
returns-clause-own_base c = AifMoved.own_base_law

pub returns-clause-loads : goal.returns-clause-loads
returns-clause-loads c = AifFixed.fixed_image_loads

pub returns-clause-boots : goal.returns-clause-boots
returns-clause-boots c = AifFixed.fixed_image_boots
