use Rattle.payload_merge.proofs.TimeOrders.{orders_by_time, in_time_order-rising}
use Rattle.payload_merge.proofs.laws.instants_fold_in_time_order.Goals as goal

pub returns : goal.returns
returns c = (orders_by_time, in_time_order-rising)
