use Rattle.rx_lines.proofs.OrderLaws.{leads_once, never_both, one_bad_line, one_list}
use Rattle.rx_lines.proofs.laws.a_text_has_one_reading.Goals as goal

pub returns-clause-one_list : goal.returns-clause-one_list
returns-clause-one_list g c = one_list g.O.LineOrder.order c.requires

pub returns-clause-one_place : goal.returns-clause-one_place
returns-clause-one_place g c = leads_once g.O.LineOrder.order c.requires

pub returns-clause-never_both : goal.returns-clause-never_both
returns-clause-never_both g c = never_both g.O.LineOrder.order c.requires

pub returns-clause-one_bad_line : goal.returns-clause-one_bad_line
returns-clause-one_bad_line g c = one_bad_line g.O.LineOrder.order c.requires
