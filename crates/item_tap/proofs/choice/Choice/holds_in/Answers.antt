use Rattle.item_tap.proofs.choice.Choice.holds_in.Goals as goal

pub returns-in-Port : goal.returns-in-Port
returns-in-Port c = rw c.in-Port.is (c.is_of_port.ensures c.args.source)

pub returns-in-Comparator : goal.returns-in-Comparator
returns-in-Comparator c = rw c.in-Comparator.is (c.is_of_comparator.ensures c.args.source)

pub returns-in-Time : goal.returns-in-Time
returns-in-Time c = rw c.in-Time.is (c.is_time.ensures c.args.source)
